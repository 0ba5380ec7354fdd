-- When the calls of sessions promise something, and of which moments of a key.
use Rattle.std.specs.Prelude.{◌≡◌, ◌≤◌, ℕ, List}
use Rattle.stream_base.specs.declared.def.Def.{Def}
use Rattle.stream_base.specs.declared.kept.Kept.{Kept}
use Rattle.stream_base.specs.Limits.{Definitions}
use Rattle.stream_base.specs.Model.Changes.{Moment}
use Rattle.stream_base.specs.Model.Journal.{put_in_order}
use Rattle.key_parts.specs.Calls.{window_at}
use Rattle.agg_store.specs.Stored.{Stored}
use Rattle.window_spans.specs.declared.span.Span.{Span}
use Rattle.window_spans.specs.Held.{AreAlignedWith}
use Rattle.window_spans.specs.Spans.{asked_of, told_at}
use Rattle.context_windows.specs.Aligned.{IsOfSessions}
use Rattle.context_windows.specs.Spanned.{FollowsSessions, HoldsSessions, Remembers, Spanned, gap_at, gap_of}

-- the spans of the sessions that stand and that a tuple at a time may change
abbrev pub asked_in : Definitions → ℕ → ℕ → ℕ → Spanned → List Span
asked_in d window time water s = asked_of (gap_at d window) time water s.spans

-- the spans of the sessions that are told of a tuple at a time
abbrev pub told_in : Definitions → ℕ → ℕ → ℕ → Spanned → List Span
told_in d window time water s = told_at (gap_at d window) time water s.spans

-- where the sessions follow a key's tuples, with none forgotten that ends after a time, and the store holds these
abbrev pub WhereSessionsHeld : Definitions → ℕ → ℕ → Stored → Spanned → (List Kept → Type 0) → Type 0
WhereSessionsHeld d window time store s Holds =
    (kept : List Kept) → FollowsSessions (gap_at d window) kept s → s.forgotten ≤ time
    → HoldsSessions (gap_at d window) time kept store → Holds kept

-- where the sessions follow a key's tuples before one of a time comes, they follow them after with that one
abbrev pub FollowTuple : Definitions → ℕ → ℕ → Spanned → Spanned → Type 0
FollowTuple d window time old new =
    (kept : List Kept) (x : Kept) → FollowsSessions (gap_at d window) kept old → old.forgotten ≤ time
    → x.time ≡ time → FollowsSessions (gap_at d window) (put_in_order kept x) new

-- of the window at a place, and each moment under a watermark before a tuple of a time came, where the sessions follow its tuples and remember what stood, and the store holds these with that tuple
abbrev pub WhereTupleCame : Definitions → ℕ → ℕ → ℕ → Stored → Spanned → (Def → Moment → Kept → Type 0) → Type 0
WhereTupleCame d window time water store s Holds =
    (m : Moment) (x : Kept) → FollowsSessions (gap_at d window) m.kept s → s.forgotten ≤ time
    → x.time ≡ time → m.water ≡ water → Remembers (window_at d window) time water m.kept s
    → HoldsSessions (gap_at d window) time (put_in_order m.kept x) store
    → Holds (window_at d window) m x

-- of the window at a place, each key, and each moment under a watermark, where the sessions follow its tuples
abbrev pub WhereFollowed : Definitions → ℕ → ℕ → Spanned → (Def → List ℕ → Moment → Type 0) → Type 0
WhereFollowed d window water s Holds =
    (key : List ℕ) (m : Moment) → FollowsSessions (gap_at d window) m.kept s → s.forgotten ≤ water
    → m.water ≡ water → Holds (window_at d window) key m

-- of the window at a place, and each moment under a watermark, where the sessions follow its tuples and the store holds these
abbrev pub WhereFollowedHeld : Definitions → ℕ → ℕ → Stored → Spanned → (Def → Moment → Type 0) → Type 0
WhereFollowedHeld d window water store s Holds =
    (m : Moment) → FollowsSessions (gap_at d window) m.kept s → s.forgotten ≤ water → m.water ≡ water
    → HoldsSessions (gap_at d window) water m.kept store → Holds (window_at d window) m

-- slices of some of a key's tuples part at those of its sessions' spans that are chosen by a gap and two times
abbrev pub PartAt : (ℕ → ℕ → ℕ → List Span → List Span) → Type 0
PartAt chosen =
    (windows : List Def) (w : Def) (kept : List Kept) (store : Stored) (s : Spanned) (time water : ℕ)
    → IsOfSessions windows w kept store → FollowsSessions (gap_of w.kind) kept s
    → AreAlignedWith store.slices (chosen (gap_of w.kind) time water s.spans)

-- the same where a tuple has come to the store, at a time that the spans don't yet know, and that chooses them
abbrev pub PartWithTupleAt : (ℕ → ℕ → ℕ → List Span → List Span) → Type 0
PartWithTupleAt chosen =
    (windows : List Def) (w : Def) (kept : List Kept) (x : Kept) (store : Stored) (s : Spanned) (water : ℕ)
    → IsOfSessions windows w (put_in_order kept x) store → FollowsSessions (gap_of w.kind) kept s
    → s.forgotten ≤ x.time → AreAlignedWith store.slices (chosen (gap_of w.kind) x.time water s.spans)
