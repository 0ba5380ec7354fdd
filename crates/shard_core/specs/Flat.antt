-- How the changes under the entries are kept: one behind the other, with the end of each entry's.
use Rattle.std.specs.Prelude.{◌≡◌, ◌+◌, ◌-◌, ◌==◌, ℕ, List, [], ◌∷◌, length, slice_index, if◌then◌else◌}
use Rattle.std.specs.List.{flat_map}
use Rattle.stream_base.specs.Limits.{AreWithinLimits, Definitions}
use Rattle.stream_base.specs.declared.change.Change.{Change}
use Rattle.stream_base.specs.declared.kept.Kept.{Kept}
use Rattle.shard_core.specs.Engines.{IsTableOf}
use Rattle.shard_core.specs.Recorded.{Recorded}
use Rattle.shard_core.specs.Shard.{Sharded, changes_behind}
use Rattle.shard_core.specs.declared.keys.KeyTable.{KeyTable}

-- the lists of changes put together
abbrev pub joined : List (List Change) → List Change
joined lists = flat_map (λ changes. changes) lists

-- where each of the lists ends there
abbrev pub ends_from : ℕ → List (List Change) → List ℕ
ends_from start [] = []
ends_from start (changes ∷ lists) = (start + length changes) ∷ ends_from (start + length changes) lists

-- where the list at a position begins, given where the lists end
abbrev pub start_at : List ℕ → ℕ → ℕ
start_at ends position = if position == 0 then 0 else slice_index ends (position - 1)

-- a shard as contracts see it
abbrev pub sharded : Recorded → Sharded
sharded past = record { defs = past.defs; sources = past.sources; journal = past.journal }

-- the definitions are within their limits, the table of keys is that of the past, and under each of its entries stand the changes of the definitions
pub record IsShard {K : Type 0} (key_of : K → List ℕ) (fits : Definitions → List Kept → List ℕ → ℕ → K → Type 0) (next_position : K → ℕ) (past : Recorded) (keys : KeyTable K) (changes : List Change) (ends : List ℕ) : Type 0 where
  pub limits : AreWithinLimits past.defs
  pub keys_are : IsTableOf key_of fits next_position past keys
  pub changes_are : changes ≡ joined (changes_behind past.defs past.sources [] past.journal)
  pub ends_are : ends ≡ ends_from 0 (changes_behind past.defs past.sources [] past.journal)
