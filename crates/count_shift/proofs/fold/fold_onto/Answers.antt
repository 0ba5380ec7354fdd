-- One tuple more is lifted and combined, in one step.
use Rattle.std.proofs.Common.{◌≡◌, ◌∙◌, arith, get_or, pos, rules, sym}
use Rattle.std.proofs.lemmas.List.Sums.{fold_more}
use Rattle.stream_base.specs.declared.kept.Kept.{Kept}
use Rattle.aggregates.specs.Bundled.{bundle_of_number, bundles_combined}
use Rattle.count_shift.proofs.fold.fold_onto.Goals as goal

pub loop-x-preserved : goal.loop-x-preserved
loop-x-preserved g c =
    let none : Kept = record { position = 0; time = 0; value = pos 0 } in
    let lifted : c.lift.result ≡ bundle_of_number (get_or c.args.run.now c.loop-x.x-index none).value = search rules in
    record {
      value =
          c.combine-so_far.ensures.value
          ∙ (λ i. bundles_combined (c.loop-x.invariant.value i) (lifted i))
          ∙ sym (fold_more (λ b (x : Kept). bundles_combined b (bundle_of_number x.value)) c.args.bundle c.args.run.now c.loop-x.x-index none c.loop-x-test.true);
      cost = omega (arith, c.combine-so_far.ensures.counted, c.loop-x.invariant.cost);
    }
