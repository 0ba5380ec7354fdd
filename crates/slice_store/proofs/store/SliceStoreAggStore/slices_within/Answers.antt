-- They stand between the places of both times.
use Rattle.std.proofs.Common.{arith}
use Rattle.slice_store.proofs.WithinTimes.{number_within}
use Rattle.slice_store.proofs.store.SliceStoreAggStore.slices_within.Goals as goal

pub returns-clause-count : goal.returns-clause-count
returns-clause-count g c =
    rw (← c.self.view_is)
    (omega (arith, number_within c.self.inside.runs.slices c.args.low c.args.high c.before-begun.result c.before-ended.result c.before-begun.ensures.place c.before-ended.ensures.place))
