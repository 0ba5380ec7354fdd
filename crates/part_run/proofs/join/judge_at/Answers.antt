-- What is found of the text is what is found at its place.
use Rattle.std.proofs.Common.{None, Some, arith}
use Rattle.report_check.specs.Findings.{lists_of}
use Rattle.part_run.proofs.Joins.{judged_at, wrong_told}
use Rattle.part_run.proofs.join.judge_at.Goals as goal

pub returns-in-Ok-None : goal.returns-in-Ok-None
returns-in-Ok-None c = record {
  ok = judged_at c.args.second c.args.texts.now c.args.i _ c.index-texts-i.result c.deref.result.now None c.requires.inside c.index-texts-i.is c.deref.ensures.value (omega arith) (rw c.in-Ok-None.field-0-is at c.in-Ok-None.ensures);
  wrong = tt;
}

pub returns-in-Ok-Some : goal.returns-in-Ok-Some
returns-in-Ok-Some c = record {
  ok = tt;
  wrong = wrong_told c.args.second (lists_of c.args.texts.now) c.args.i c.fault_of_report.result c.in-Ok-Some.why c.fault_of_report.ensures
      (judged_at c.args.second c.args.texts.now c.args.i _ c.index-texts-i.result c.deref.result.now (Some c.in-Ok-Some.why) c.requires.inside c.index-texts-i.is c.deref.ensures.value (omega arith) (rw c.in-Ok-Some.field-0-is at c.in-Ok-Some.ensures));
}
