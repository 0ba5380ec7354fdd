-- All slots stand for the same, and the first of the places have room.
use Rattle.std.proofs.Common.{◌≡◌}
use Rattle.shard_core.specs.Engines.{AreSameSlots}
use Rattle.shard_core.proofs.Loops.{AreReserved}
use Rattle.shard_core.proofs.keys.KeyTable.reserve_moves.Given as goal

abbrev pub invariant-loop-place : goal.invariant-loop-place
invariant-loop-place g l =
    (l.self.index ≡ l.fn.self.index)
    × (l.self.dues ≡ l.fn.self.dues)
    × AreSameSlots g.K.KeyWindows.key_of g.K.KeyWindows.fits g.K.KeyWindows.next_position l.defs l.fn.self.slots.items l.self.slots.items
    × AreReserved g.K.KeyWindows.key_of g.K.KeyWindows.fits g.K.KeyWindows.next_position l.defs (g.K.KeyWindows.is_ready l.defs) g.K.KeyWindows.promised l.new l.places l.place-index l.self.slots.items l.room
