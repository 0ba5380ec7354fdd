-- When the calls of intervals between marks promise something, and of which moments of a key.
use Rattle.std.specs.Prelude.{◌≡◌, ◌≤◌, ℕ, List}
use Rattle.stream_base.specs.declared.func.Func.{Func}
use Rattle.stream_base.specs.declared.kept.Kept.{Kept}
use Rattle.stream_base.specs.Model.Changes.{Moment}
use Rattle.stream_base.specs.Model.Journal.{put_in_order}
use Rattle.agg_store.specs.Stored.{Stored}
use Rattle.context_windows.specs.Marked.{FollowsMarks, HoldsStretches, Marked, RemembersHolder, holder_in, most_changes}

-- at least as many as the changes of a tuple or of a mark at a time
abbrev pub most_changes_at : ℕ → ℕ → Marked → ℕ
most_changes_at time water s = most_changes time water (holder_in time s.spans s.marks)

-- where the intervals follow a key's marks and tuples, with none forgotten that ends after a time, and the store holds these tuples
abbrev pub WhereMarksHeld : ℕ → Stored → Marked → (List ℕ → List Kept → Type 0) → Type 0
WhereMarksHeld time store s Holds =
    (marks : List ℕ) (kept : List Kept) → FollowsMarks marks kept s → s.forgotten ≤ time
    → HoldsStretches time marks kept store → Holds marks kept

-- where the intervals follow a key's marks and tuples, with none forgotten that ends after a time, and what stood there is kept
abbrev pub WhereRemembered : Func → ℕ → ℕ → Marked → Type 0 → Type 0
WhereRemembered func time water s Holds =
    (marks : List ℕ) (kept : List Kept) → FollowsMarks marks kept s → s.forgotten ≤ time
    → RemembersHolder func time water marks kept s → Holds

-- where the intervals follow a key's marks and tuples before one of a time comes, they follow them after with that one
abbrev pub FollowMarksWithTuple : ℕ → Marked → Marked → Type 0
FollowMarksWithTuple time old new =
    (marks : List ℕ) (kept : List Kept) (x : Kept) → FollowsMarks marks kept old
    → old.forgotten ≤ time → x.time ≡ time → FollowsMarks marks (put_in_order kept x) new

-- what the intervals follow they go on to follow
abbrev pub FollowOn : Marked → Marked → Type 0
FollowOn old new =
    (marks : List ℕ) (kept : List Kept) → FollowsMarks marks kept old → FollowsMarks marks kept new

-- of each moment under a watermark before a tuple of a time came, where the intervals follow its marks and tuples and what stood is kept, and the store holds these tuples with that one
abbrev pub WhereTupleCameBetween : Func → ℕ → ℕ → Stored → Marked → (Moment → Kept → Type 0) → Type 0
WhereTupleCameBetween func time water store s Holds =
    (m : Moment) (x : Kept) → FollowsMarks m.marks m.kept s → s.forgotten ≤ time → x.time ≡ time
    → m.water ≡ water → RemembersHolder func time water m.marks m.kept s
    → HoldsStretches time m.marks (put_in_order m.kept x) store → Holds m x

-- of each key, function and moment under a watermark, where the intervals follow its marks and tuples
abbrev pub WhereMarksFollowed : ℕ → Marked → (List ℕ → Func → Moment → Type 0) → Type 0
WhereMarksFollowed water s Holds =
    (key : List ℕ) (func : Func) (m : Moment) → FollowsMarks m.marks m.kept s
    → s.forgotten ≤ water → m.water ≡ water → Holds key func m

-- of each moment under a watermark, where the intervals follow its marks and tuples, with none forgotten that ends after a time, and the store holds these tuples
abbrev pub WhereMomentHeld : ℕ → ℕ → Stored → Marked → (Moment → Type 0) → Type 0
WhereMomentHeld time water store s Holds =
    (m : Moment) → FollowsMarks m.marks m.kept s → s.forgotten ≤ time → m.water ≡ water
    → HoldsStretches time m.marks m.kept store → Holds m
