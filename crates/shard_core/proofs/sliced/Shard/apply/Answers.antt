-- The bounds of the engine on slices, by the changes under the entry.
use Rattle.std.proofs.lemmas.Result.{on_ok_weaker}
use Rattle.shard_core.proofs.Costs.{mark_within_folds, progress_within_folds, tuple_within_folds}
use Rattle.shard_core.proofs.sliced.Shard.apply.Goals as goal

pub returns-clause-applies : goal.returns-clause-applies
returns-clause-applies g c =
    let a = c.apply.ensures.applies in
    let old = c.self.inside.keyed in
    rw (← c.self.view_is) (record {
      applied = a.applied;
      journal = a.journal;
      position = a.position;
      changes = a.changes;
      refused = a.refused;
      tuple_work = on_ok_weaker c.apply.result (tuple_within_folds old c.args.entry.now c.args.steps.now c.apply.new.steps c.apply.ensures.limits) a.tuple_work;
      mark_work = on_ok_weaker c.apply.result (mark_within_folds old c.args.entry.now c.args.steps.now c.apply.new.steps c.apply.ensures.limits) a.mark_work;
      move_work = on_ok_weaker c.apply.result (progress_within_folds old c.args.entry.now c.args.steps.now c.apply.new.steps c.apply.ensures.limits) a.move_work;
      late_work = a.late_work;
      still_work = a.still_work;
      refused_work = a.refused_work;
    })
