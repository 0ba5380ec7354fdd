-- The walk over the intervals that are due from a start on.
use Rattle.std.specs.Prelude.{◌≤◌, ◌+◌, ◌*◌, ℕ, ℤ, List, length, map}
use Rattle.stream_base.specs.declared.change.Change.{Change}
use Rattle.stream_base.specs.declared.kept.Kept.{Kept}
use Rattle.window_laws.specs.Walk.{due_from}
use Rattle.agg_store.specs.Stored.{Stored, tuples_of}
use Rattle.time_lanes.specs.Held.{Holding, HoldsFrom, not_held}
use Rattle.time_lanes.specs.Spans.{last_end}
use Rattle.time_lanes.specs.Told.{new_at}
use Rattle.time_lanes.specs.declared.owner.Owner.{Owner}
use Rattle.time_lanes.specs.declared.span.Span.{Span}

-- the starts of the intervals that are due from one on, up to a watermark
abbrev pub due_in : Span → Stored → ℕ → ℕ → List ℕ
due_in span s from new = due_from span.length span.slide (tuples_of s) from new

-- the interval that starts so, told as new
abbrev pub new_row : Owner → Span → Stored → ℕ → Change
new_row owner span s low = new_at owner.window owner.key.now owner.func span.length (tuples_of s) low

-- those that are due from a start on, told as new
abbrev pub rows_from : Owner → Span → Stored → ℕ → ℕ → List Change
rows_from owner span s from new =
    map (new_at owner.window owner.key.now owner.func span.length (tuples_of s)) (due_in span s from new)

-- where exactly the slices from a start on are held, and none behind its interval
abbrev pub WhereHeld : {M : Type 0} → (List ℤ → M) → Span → Stored → ℕ → Holding M → Type 0 → Type 0
WhereHeld of_values span s from held Holds =
    HoldsFrom of_values from s held → held.to ≤ from + span.length → Holds

-- the slices of the interval that starts so which aren't held yet
abbrev pub missing : {M : Type 0} → Span → Stored → ℕ → Holding M → List (List Kept)
missing span s low held = not_held s low (low + span.length) held

-- the slices that a walk from a start up to a watermark has yet to take up
abbrev pub ahead : {M : Type 0} → Span → Stored → ℕ → ℕ → Holding M → List (List Kept)
ahead span s new from held = not_held s from (last_end span.length span.slide new) held

-- the room that is lost between two starts went to slices that were ahead
abbrev pub TakesRoom : {M : Type 0} → Span → Stored → ℕ → ℕ → ℕ → Holding M → Holding M → Type 0
TakesRoom span s new from to before after =
    before.spare + length (ahead span s new to after) ≤ after.spare + length (ahead span s new from before)

-- between two starts the steps and the credit rise by 10 at most for each slice that was ahead, and by 1 for each interval that was due
abbrev pub PaysOnward : {M : Type 0} → Span → Stored → ℕ → ℕ → ℕ → Holding M → Holding M → ℕ → ℕ → Type 0
PaysOnward span s new from to before after steps later =
    later + after.credit + 10 * length (ahead span s new to after)
    ≤ steps + before.credit + 10 * length (ahead span s new from before) + length (due_in span s from new)
