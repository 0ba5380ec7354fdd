-- The states at the first of the places were caught up.
use Rattle.std.proofs.Common.{◌≡◌}
use Rattle.stream_base.specs.Model.Watermark.{water_of}
use Rattle.shard_core.specs.Engines.{IsTableOf, StandAt}
use Rattle.shard_core.proofs.keys.KeyTable.catch_up_all.Given as goal

abbrev pub invariant-loop-place : goal.invariant-loop-place
invariant-loop-place g l = record {
  current : IsTableOf g.K.KeyWindows.key_of g.K.KeyWindows.fits g.K.KeyWindows.next_position l.past l.self;
  index : l.self.index ≡ l.fn.self.index;
  dues : l.self.dues ≡ l.fn.self.dues;
  water : StandAt (water_of l.past.sources l.past.journal) l.self.slots.items l.places l.place-index;
}
