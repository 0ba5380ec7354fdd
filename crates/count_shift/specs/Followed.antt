-- Of which moments of a key the calls of a lane promise something.
use Rattle.std.specs.Prelude.{◌≡◌, ◌≤◌, ℕ, List}
use Rattle.stream_base.specs.declared.def.Def.{Def}
use Rattle.stream_base.specs.declared.func.Func.{Func}
use Rattle.stream_base.specs.declared.kept.Kept.{Kept}
use Rattle.stream_base.specs.Model.Changes.{Moment}
use Rattle.stream_base.specs.Model.Journal.{put_in_order}
use Rattle.stream_base.specs.Model.Moments.{moment}
use Rattle.count_shift.specs.Counting.{IsNextPosition, events}
use Rattle.count_shift.specs.Lane.{FollowsTuples, Laned}

-- of each moment of a key under a watermark, where a lane follows its tuples
abbrev pub AtFollowed : ℕ → ℕ → Laned → ℕ → (Moment → Type 0) → Type 0
AtFollowed count time lane water Holds =
    (kept : List Kept) (marks : List ℕ) → FollowsTuples count time kept lane → Holds (moment kept marks water)

-- the same for each window of such a count, and each key
abbrev pub OfEachFollowed : ℕ → ℕ → Laned → ℕ → (ℕ × Def → List ℕ → Moment → Type 0) → Type 0
OfEachFollowed count time lane water Holds =
    (window : ℕ) (func : Func) (key marks : List ℕ) (kept : List Kept) → FollowsTuples count time kept lane
    → Holds (window, events count func) key (moment kept marks water)

-- of each moment of a key under a watermark, where a lane follows its tuples, and the same with a tuple more
abbrev pub WhereTaken : ℕ → ℕ → Laned → ℕ → Kept → (Moment → Moment → Type 0) → Type 0
WhereTaken count time lane water x Holds =
    (kept : List Kept) (marks : List ℕ) → FollowsTuples count time kept lane
    → Holds (moment kept marks water) (moment (put_in_order kept x) marks water)

-- so where that tuple comes behind all of these
abbrev pub WhereTakenNext : ℕ → ℕ → Laned → ℕ → Kept → (Moment → Moment → Type 0) → Type 0
WhereTakenNext count time lane water x Holds =
    (kept : List Kept) (marks : List ℕ) → FollowsTuples count time kept lane
    → IsNextPosition kept x.position
    → Holds (moment kept marks water) (moment (put_in_order kept x) marks water)

-- the same for each window of such a count, each key, and each such tuple at this time
abbrev pub OfEachNext : ℕ → ℕ → Laned → ℕ → ℕ → (ℕ × Def → List ℕ → Moment → Moment → Type 0) → Type 0
OfEachNext count time lane water at Holds =
    (window : ℕ) (func : Func) (key marks : List ℕ) (kept : List Kept) (x : Kept) → x.time ≡ at
    → FollowsTuples count time kept lane → IsNextPosition kept x.position
    → Holds (window, events count func) key (moment kept marks water) (moment (put_in_order kept x) marks water)

-- a lane that follows a key before a tuple follows it after with that tuple, up to each time until the tuple's
abbrev pub FollowsTuple : ℕ → Kept → Laned → Laned → Type 0
FollowsTuple count x old new =
    (kept : List Kept) (time : ℕ) → time ≤ x.time → FollowsTuples count time kept old
    → FollowsTuples count time (put_in_order kept x) new
