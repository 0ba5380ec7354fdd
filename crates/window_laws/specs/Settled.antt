-- Which tuples are settled, told by times.
use Rattle.std.specs.Prelude.{◌*◌, ◌/◌, ◌≡◌, ◌≤◌, ◌<◌, ◌+◌, ℕ, true, List, drop, take, filter, length, All}
use Rattle.std.specs.List.{Contains}
use Rattle.stream_base.specs.declared.kept.Kept.{Kept}
use Rattle.stream_base.specs.declared.kind.Kind.{Kind}
use Rattle.stream_base.specs.Limits.{Definitions}
use Rattle.stream_base.specs.Kinds.{IsKindWithin, length_of, slide_of}
use Rattle.stream_base.specs.Model.Changes.{Moment}
use Rattle.stream_base.specs.Model.Slices.{is_settled}
use Rattle.stream_base.specs.Model.Windows.{Instance, instances_of}
use Rattle.window_laws.specs.Positions.{AreKept}

-- what is kept and settled
abbrev pub settled : Definitions → Moment → List Kept
settled d m = filter (is_settled d m) m.kept

-- each instance of a window whose span holds the time ends by the watermark minus the lateness
abbrev pub IsSettledAt : ℕ → Kind → Moment → ℕ → Type 0
IsSettledAt lateness kind m time =
    (i : Instance) → Contains (instances_of kind m.kept m.marks) i
    → i.low ≤ time → time < i.high → i.high + lateness ≤ m.water

-- the end of the last interval of a tumbling or sliding window that holds a time
abbrev pub last_end_of : Kind → ℕ → ℕ
last_end_of kind time = time / slide_of kind * slide_of kind + length_of kind

-- a key that so many first tuples have left
abbrev pub without_first : ℕ → Moment → Moment
without_first n m = record { kept = drop n m.kept; marks = m.marks; water = m.water }

-- so many first tuples of a key are settled, and so may leave
pub record MayLeave (d : Definitions) (m : Moment) (n : ℕ) : Type 0 where
  pub kinds : All (λ w. IsKindWithin w.kind) d.windows
  pub kept : AreKept m.kept
  pub few : n ≤ length m.kept
  pub are_settled : All (λ x. is_settled d m x ≡ true) (take n m.kept)
