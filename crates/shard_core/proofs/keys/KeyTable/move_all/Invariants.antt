-- The states at the first of the places were moved, and no other.
use Rattle.std.proofs.Common.{◌≡◌, ℕ, List, get_or}
use Rattle.std.specs.Prelude.{EachIndex}
use Rattle.stream_base.specs.declared.kept.Kept.{Kept}
use Rattle.shard_core.specs.declared.slot.Slot.{Slot}
use Rattle.shard_core.specs.Engines.{AreMovedWithin, StandsIn}
use Rattle.shard_core.specs.Told.{IsSettled, spare_of}
use Rattle.shard_core.proofs.Loops.{AreMoved}
use Rattle.shard_core.proofs.keys.KeyTable.move_all.Given as goal

abbrev pub invariant-loop-place : goal.invariant-loop-place
invariant-loop-place g l =
    (l.self.index ≡ l.fn.self.index)
    × AreMoved g.K.KeyWindows.key_of g.K.KeyWindows.fits g.K.KeyWindows.next_position l.defs (g.K.KeyWindows.is_ready l.defs) g.K.KeyWindows.promised l.new l.places l.place-index
    l.fn.self.slots.items l.self.slots.items l.fn.self.dues.items l.self.dues.items l.fn.told.log.items l.told.log.items (spare_of l.told)
    × (l.place-index ≡ 0 → l.told.log.items ≡ l.fn.told.log.items)
    × IsSettled l.told
    × (l.place-index ≡ 0 → l.steps ≡ l.fn.steps)
    × ((x : Slot g.row.K.Denot) (kept : List ℕ → List Kept) (marks : List ℕ → List ℕ)
    → EachIndex l.places (λ i. StandsIn g.K.KeyWindows.key_of g.K.KeyWindows.fits l.defs kept marks (get_or l.fn.self.slots.items (get_or l.places i 0) x))
    → AreMovedWithin g.K.KeyWindows.bounds_move g.K.KeyWindows.key_of l.defs kept marks l.new l.fn.self.slots.items x l.places l.place-index l.fn.steps l.steps)
