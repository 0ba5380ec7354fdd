-- One text more is such a report, or it is the first that isn't.
use Rattle.std.proofs.Common.{◌<◌, arith, length}
use Rattle.std.proofs.lemmas.List.{length-map}
use Rattle.std.proofs.lemmas.Result.{err_from_is_err_and}
use Rattle.report_check.specs.Findings.{lists_of}
use Rattle.part_run.specs.Joining.{WrongAt}
use Rattle.part_run.proofs.Joins.{reports_more, wrong_at}
use Rattle.part_run.proofs.join.judge_all.Goals as goal

pub loop-i-preserved : goal.loop-i-preserved
loop-i-preserved c =
    let all = lists_of c.args.texts.now in
    reports_more c.args.second (length all) all c.loop-i.i c.loop-i.invariant c.in_ok-judge_at.ensures.ok

pub returns-in_err-judge_at-clause-wrong : goal.returns-in_err-judge_at-clause-wrong
returns-in_err-judge_at-clause-wrong c =
    let all = lists_of c.args.texts.now in
    let i = c.loop-i.i in
    let inside : i < length all = omega (arith, c.loop-i-test.true, length-map c.args.texts.now (λ v. v.items)) in
    let wrong : WrongAt c.args.second all c.in_err-judge_at.field-0.0 = wrong_at c.args.second all i inside c.loop-i.invariant c.in_err-judge_at.field-0.0 c.in_err-judge_at.ensures.wrong in
    let p = err_from_is_err_and c.from_residual.result c.from_residual.ensures.1 in
    rw (p.1, p.2) wrong
