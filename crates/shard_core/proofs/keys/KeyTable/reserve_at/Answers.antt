-- The state at the place stands for some lists.
use Rattle.std.proofs.Common.{◌≤◌, subst, sym}
use Rattle.shard_core.specs.Engines.{HasLists}
use Rattle.shard_core.specs.declared.slot.Slot.{Slot}
use Rattle.shard_core.proofs.keys.KeyTable.reserve_at.Goals as goal

pub reserve_move-requires : goal.reserve_move-requires
reserve_move-requires g c =
    let slot = c.index_mut.result.now in
    record {
      stands = subst (λ (s : Slot g.row.K.Denot). HasLists g.K.KeyWindows.fits c.args.defs.now s) (sym c.index_mut.ensures.value) (c.requires.stands slot);
      rises = subst (λ (s : Slot g.row.K.Denot). s.water ≤ c.args.new) (sym c.index_mut.ensures.value) (c.requires.rises slot);
      is_water = c.requires.is_water;
    }
