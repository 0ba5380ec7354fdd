use Rattle.std.proofs.Common.{◌++◌, [], ◌∷◌, get_or, map, take, sym, subst}
use Rattle.scotty_run.specs.Settling.{IsLeastFull}
use Rattle.scotty_run.proofs.Settlings.{least_more, outcomes_more}
use Rattle.scotty_run.proofs.settling.least_full.Goals as goal

pub loop-i-preserved : goal.loop-i-preserved
loop-i-preserved g c =
    let ends = c.args.ends.now in
    let end = get_or ends c.loop-i.i c.index-ends-i.result in
    let before = map (λ e. e.outcome) (take c.loop-i.i ends) in
    let more = outcomes_more ends c.loop-i.i c.index-ends-i.result c.loop-i-test.true in
    let next = least_more before c.loop-i.least end.outcome c.loop-i.invariant.so_far in
    record { so_far = subst (λ os. IsLeastFull os c.least_with-least.result) (sym more) (subst (IsLeastFull (before ++ end.outcome ∷ [])) (sym c.least_with-least.ensures) next) }
