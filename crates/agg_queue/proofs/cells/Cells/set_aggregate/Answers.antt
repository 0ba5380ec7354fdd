-- Only the aggregate at the place is another one.
use Rattle.std.proofs.Common.{ap, ◌∙◌, rules, slice_set}
use Rattle.std.proofs.lemmas.List.{map-set}
use Rattle.std.proofs.Math.Seq.{map-set_same}
use Rattle.agg_queue.proofs.cells.Cells.set_aggregate.Goals as goal

pub returns-clause-kept : goal.returns-clause-kept
returns-clause-kept g c =
    record {
      values = map-set_same (λ cell. cell.value) c.self.inside.deque.items c.args.at _ c.index_mut.result.now (ap (λ cell. cell.value) c.index_mut.ensures.value) ∙ ap (λ lanes. lanes.values) c.self.view_is;
      spare = search rules;
    }

pub returns-clause-aggregates : goal.returns-clause-aggregates
returns-clause-aggregates g c =
    map-set (λ cell. cell.aggregate) c.self.inside.deque.items c.args.at _ ∙ ap (λ lanes. slice_set lanes.aggregates c.args.at c.args.aggregate) c.self.view_is
