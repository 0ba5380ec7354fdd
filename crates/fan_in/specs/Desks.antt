-- A shard under a ticket lock: its journal, each entry with the number of the pass that made it.
use Rattle.std.specs.Prelude.{◌++◌, ℕ, List, [], ◌∷◌, map}
use Rattle.std.specs.List.{zip}
use Rattle.stream_base.specs.declared.entry.Entry.{Entry}
use Rattle.shard_core.specs.Shard.{Sharded, sharded_with}
use Rattle.turnstile.specs.declared.keeps.Keeps.{Ghosts}
use Rattle.fan_in.specs.declared.fixed_part.FixedPart.{FixedPart}

-- a shard, and the numbers of the passes that made its entries, in the order of the journal
pub record BookedState : Type 0 where
  pub shard : Sharded
  pub numbers : List ℕ

-- the same with one entry more, under a number
abbrev pub booked_with : BookedState → ℕ → Entry → BookedState
booked_with b number entry = record { shard = sharded_with b.shard entry; numbers = b.numbers ++ number ∷ [] }

-- the entries of the journal, each with its number
abbrev pub items_of : BookedState → List (ℕ × Entry)
items_of b = zip b.numbers (b.shard).journal

-- the part that no turn changes
abbrev pub fixed_of : BookedState → FixedPart
fixed_of b = record { defs = (b.shard).defs; sources = (b.shard).sources }

-- the entries of items
abbrev pub entries_of : List (ℕ × Entry) → List Entry
entries_of items = map (λ item. item.1) items

-- what each desk keeps
abbrev pub booked_items : Ghosts BookedState Entry FixedPart
booked_items = record { items = items_of; fixed = fixed_of }
