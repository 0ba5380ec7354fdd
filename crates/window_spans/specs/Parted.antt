-- The interval between the marks at the sides of a time, and what a mark makes of one.
use Rattle.std.specs.Prelude.{◌≤◌, ◌&&◌, ℕ, Bool, List, [], ◌∷◌, map, nat_lt, Option, None, Some, if◌then◌else◌, All}
use Rattle.std.specs.List.Sorted.{IsStrictlyIncreasing}
use Rattle.stream_base.specs.declared.change.Change.{Change}
use Rattle.stream_base.specs.declared.change.Change.TheVariants.{Gone, New}
use Rattle.stream_base.specs.declared.func.Func.{Func}
use Rattle.stream_base.specs.declared.limits.TheConstants.{TIME_MAX}
use Rattle.stream_base.specs.Model.Changes.{row_of}
use Rattle.stream_base.specs.Model.Windows.{Instance}
use Rattle.window_laws.specs.After.{complete_at}
use Rattle.window_laws.specs.Stretches.{last_mark, next_mark}
use Rattle.window_spans.specs.declared.span.Span.{Span}
use Rattle.window_spans.specs.Spans.{span_of, stands}

-- marks rise, and lie within the limit of times
pub record AreMarks (marks : List ℕ) : Type 0 where
  pub rising : IsStrictlyIncreasing marks
  pub in_time : All (λ m. m ≤ TIME_MAX) marks

-- the interval between the marks at the sides of a time
abbrev pub holder_of : List ℕ → ℕ → Span
holder_of marks time = record { low = last_mark marks time; high = next_mark marks time }

-- the first of some spans, or else another
abbrev pub first_or : Span → List Span → Span
first_or other [] = other
first_or other (s ∷ ss) = s

-- the first part of an interval, and the second, where a mark comes
abbrev pub front_of : ℕ → Span → Span
front_of time s = record { low = s.low; high = time }

abbrev pub back_of : ℕ → Span → Span
back_of time s = record { low = time; high = s.high }

-- the first of some intervals, if there is one and it begins before a time
abbrev pub head_before : ℕ → List Span → Option Span
head_before time [] = None
head_before time (s ∷ ss) = if nat_lt s.low time then Some s else None

-- an interval that stands goes
abbrev pub gone_if : ℕ → List ℕ → Func → ℕ → Instance → List Change
gone_if window key func water i = map (λ i. Gone (row_of window key func i)) (complete_at water (i ∷ []))

-- a part of it that has a tuple and stands comes
abbrev pub shown_if : Bool → ℕ → Span → List Span
shown_if filled water s = if filled && stands water s then s ∷ [] else []

abbrev pub come_if : ℕ → List ℕ → Func → Bool → ℕ → Instance → List Change
come_if window key func filled water i =
    if filled && stands water (span_of i) then New (row_of window key func i) ∷ [] else []

-- a part of an interval, if it has a tuple and isn't forgotten
abbrev pub part_if : Bool → ℕ → Span → Option Span
part_if filled forgotten s = if filled && nat_lt forgotten s.high then Some s else None
