-- The partials under the times of an interval are those of its slices.
use Rattle.std.proofs.Common.{◌∙◌, arith}
use Rattle.agg_store.proofs.FoldFacts.{fold_is, fold_length}
use Rattle.slice_lists.proofs.SliceOrder.{times_of_order}
use Rattle.slice_store.proofs.store.SliceStoreAggStore.fold.Goals as goal

pub returns-clause-value : goal.returns-clause-value
returns-clause-value g c =
    let in_order = times_of_order c.self.inside.runs.slices c.self.invariant.holds.ordered in
    rw (← c.self.view_is)
    (c.fold_range.ensures.value
    ∙ fold_is g.met.M.Partial.partial c.args.low c.args.high c.self.inside.runs.slices _ c.self.invariant.holds c.self.invariant.partials ((rw (← c.self.view_is) at c.requires.low_parts) in_order) ((rw (← c.self.view_is) at c.requires.high_parts) in_order))

pub returns-clause-one_each : goal.returns-clause-one_each
returns-clause-one_each g c =
    rw (← c.self.view_is)
    (omega (arith, c.fold_range.ensures.work.one_each, fold_length g.M.Partial.of_values c.args.low c.args.high c.self.inside.runs.slices _ c.self.invariant.partials))

pub returns-clause-holds : goal.returns-clause-holds
returns-clause-holds g c = rw (← c.self.view_is) (record { slices = c.self.invariant.holds; marks = c.self.invariant.rising })
