-- The generator of one source, between two of its tuples.
use Rattle.std.specs.Prelude.{◌≡◌, ◌≢◌, ◌≤◌, ◌-◌, ◌+◌, ◌<◌, ◌%◌, ◌==◌, ◌++◌, ℕ, List, [], ◌∷◌, length, Option, None, Some, if◌then◌else◌}
use Rattle.stream_base.specs.declared.limits.TheConstants.{TIME_MAX}
use Rattle.stream_base.specs.declared.what.What.{What}
use Rattle.stream_base.specs.declared.what.What.TheVariants.{Mark}
use Rattle.source_feed.specs.Events.{is_made}
use Rattle.source_feed.specs.Generated.{dealt, greatest_at, next_state, state_after, told_of_indices}
use Rattle.source_feed.specs.Pace.{waiting_of}
use Rattle.source_feed.specs.RowsView.{AreInner}
use Rattle.source_feed.specs.declared.made_input.TheConstants.{MADE_EVERY, MADE_DISORDER}
use Rattle.source_feed.specs.declared.made_feed.TheConstants.{MADE_ROWS_MAX}
use Rattle.source_feed.specs.declared.generator.Generator.{Generator}
use Rattle.source_feed.specs.declared.waiting.Waiting.{Waiting}

-- the indices of the source's tuples that were told, and of those that are left
abbrev pub told_indices : Generator → List ℕ
told_indices g = dealt g.sources g.source 0 g.index

abbrev pub indices_left : Generator → List ℕ
indices_left g = dealt g.sources g.source g.index (g.rows - g.index)

-- what is left to be told of the source's tuples
unfoldable pub left_of : Generator → List What
left_of g = told_of_indices g.seed (told_indices g) (indices_left g)

-- the generator stands between two tuples: its state is that of its index, and its counters are those of the tuples that were told
pub record IsOnCourse (g : Generator) : Type 0 where
  pub some_source : 1 ≤ g.sources
  pub few : g.rows ≤ MADE_ROWS_MAX
  pub within : g.index ≤ g.rows
  pub state : g.state ≡ state_after g.seed g.index
  pub tuples : g.tuples ≡ length (told_indices g)
  pub greatest : g.greatest ≡ greatest_at g.seed (told_indices g)
  pub early : g.greatest ≤ TIME_MAX

-- the next index is the source's own
pub record IsAtOwn (g : Generator) : Type 0 where
  pub course : IsOnCourse g
  pub more : g.index < g.rows
  pub own : g.index % g.sources ≡ g.source

-- the source stays, and so does what is left
pub record LeavesAll (old new : Generator) : Type 0 where
  pub course : IsOnCourse new
  pub source : new.source ≡ old.source
  pub left : left_of new ≡ left_of old

-- a tuple was taken: it is told first, and then what waits behind it, which are no ends
pub record TookTuple (old : Generator) (first : What) (waiting : Waiting) (new : Generator) : Type 0 where
  pub course : IsOnCourse new
  pub source : new.source ≡ old.source
  pub told : left_of old ≡ (first ∷ waiting_of waiting) ++ left_of new
  pub inner : AreInner (first ∷ waiting_of waiting)

-- the next tuple was taken, if one was left
abbrev pub TookNext : Generator → Option (What × Waiting) → Generator → Type 0
TookNext old None new = (new.source ≡ old.source) × IsOnCourse new × (left_of old ≡ []) × (left_of new ≡ [])
TookNext old (Some next) new = TookTuple old next.0 next.1 new

-- the next index is another source's
abbrev pub IsAtOther : Generator → Type 0
IsAtOther g = (g.index < g.rows) × (g.index % g.sources ≢ g.source)

-- the generator one index on
abbrev pub stepped : Generator → Generator
stepped g = record g { index = g.index + 1; state = next_state g.state }

-- the mark behind a tuple of an index, which has this key and time, if it has one
abbrev pub mark_by : ℕ → List ℕ → ℕ → Option What
mark_by index key time = if index % 64 == 63 then Some (Mark key time) else None

-- the time of the watermark that is made after the last tuple, if one is
abbrev pub made_then : Generator → Option ℕ
made_then g = if is_made MADE_EVERY g.tuples then Some (g.greatest - MADE_DISORDER) else None
