-- The partial of one slice more is taken out.
use Rattle.std.proofs.Common.{◌∙◌, ◌<◌, ap, arith, length}
use Rattle.agg_laws.specs.Pairs.{without}
use Rattle.slice_lists.specs.declared.slice.Slice.{Slice}
use Rattle.slice_store.proofs.LeavePartials.{first_leaves, one_more}
use Rattle.slice_store.proofs.leaving.take_first.Goals as goal

pub loop-at-preserved : goal.loop-at-preserved
loop-at-preserved g c =
    let runs = c.args.runs.now.slices in
    let at = c.loop-at.at in
    let l : at < length runs = omega (arith, c.requires.within) in
    record {
      stand = c.take-partial.ensures.pairs
          ∙ (λ i. without (ap (λ (s : Slice). s.low) c.slice.ensures.shown i) (c.loop-at.invariant.stand i))
          ∙ first_leaves g.M.Partial.of_values runs at l c.slice.ensures.holds.ordered;
      keeps = record {
        spare = omega (arith, c.loop-at.invariant.keeps.spare, c.take-partial.ensures.keeps.spare);
        reach = omega (arith, c.loop-at.invariant.keeps.reach, c.take-partial.ensures.keeps.reach);
        edge = c.take-partial.ensures.keeps.edge ∙ c.loop-at.invariant.keeps.edge;
      };
      cost = one_more c.args.steps.now c.loop-at.steps c.take-partial.new.steps c.args.partials.now.reach c.loop-at.partials.reach at c.loop-at.invariant.cost c.loop-at.invariant.keeps.reach c.take-partial.ensures.cost;
    }
