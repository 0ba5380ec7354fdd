-- How instances are told.
use Rattle.std.specs.Prelude.{◌≡◌, ◌≤◌, ◌+◌, ◌-◌, ◌*◌, ◌++◌, ℕ, List, [], ◌∷◌, filter, find, map, Option, None, Some, if◌then◌else◌, Vec, vec_capacity, vec_len}
use Rattle.stream_base.specs.declared.change.Change.{Change}
use Rattle.stream_base.specs.declared.change.Change.TheVariants.{Gone, New, Again}
use Rattle.stream_base.specs.declared.func.Func.{Func}
use Rattle.stream_base.specs.declared.row.Row.{Row}
use Rattle.stream_base.specs.Model.Changes.{former_of}
use Rattle.stream_base.specs.Model.Windows.{Instance}
use Rattle.agg_store.specs.Stored.{Stored}
use Rattle.window_spans.specs.declared.span.Span.{Span}
use Rattle.window_spans.specs.declared.standing.Standing.{Standing}
use Rattle.window_spans.specs.Held.{IsHeld}
use Rattle.window_spans.specs.Spans.{goes, is_same_span, span_of, stands}

-- an instance as one that stands
abbrev pub as_standing : Func → Instance → Standing
as_standing func i = record { span = span_of i; former = former_of func i }

-- its row
abbrev pub row_for : ℕ → List ℕ → Standing → Row
row_for window key s = record {
  window = window;
  key = key;
  low = s.span.low;
  high = s.span.high;
  number = s.former.number;
  shown = s.former.shown;
}

-- the retractions of those that stood and stand no longer
abbrev pub gone_of : ℕ → List ℕ → ℕ → Span → List Standing → List Change
gone_of window key water joined stood =
    map (λ s. Gone (row_for window key s)) (filter (λ s. goes water joined s.span) stood)

-- an instance that stands is told again where one stood over its span, and else as new
abbrev pub told_as : ℕ → List ℕ → Standing → Option Standing → Change
told_as window key now None = New (row_for window key now)
told_as window key now (Some before) = Again (row_for window key now) before.former

-- what is told of an instance, if it stands
abbrev pub come_of : ℕ → List ℕ → ℕ → List Standing → Standing → List Change
come_of window key water stood now =
    if stands water now.span
    then told_as window key now (find (λ s. is_same_span now.span s.span) stood) ∷ []
    else []

-- the session that a tuple made, where the store holds its tuples, is told behind all else: again, where one of these stood over its span, and else as new; nothing is told where it doesn't stand
abbrev pub TellsJoined : ℕ → List ℕ → ℕ → List Standing → Func → Span → Stored → List Change → List Change → Type 0
TellsJoined window key water stood func joined store old new =
    (i : Instance) → IsHeld joined store i → new ≡ old ++ come_of window key water stood (as_standing func i)

-- so many changes more are told in the room of the output, each in at most 64 (reach + 2) steps over a store of this reach
pub record Tells {Z : Type 0} (count reach : ℕ) (old new : Vec Change Z) (steps_before steps_after : ℕ) : Type 0 where
  pub number : vec_len new ≡ vec_len old + count
  pub capacity : vec_capacity new ≡ vec_capacity old
  pub cost : steps_after ≤ steps_before + 64 * (reach + 2) * (vec_len new - vec_len old)
