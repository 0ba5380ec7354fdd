-- A tuple or mark leaves the watermark.
use Rattle.std.proofs.Common.{◌≡◌, ◌∙◌, false, ap, rules}
use Rattle.stream_base.specs.Model.What.{is_progress}
use Rattle.report_check.proofs.Following.{water_by_keyed}
use Rattle.report_check.proofs.ledger.water_by.Goals as goal

pub returns-in-Tuple : goal.returns-in-Tuple
returns-in-Tuple c = λ before e is what w.
    let keyed : is_progress c.args.what.now ≡ false = search rules in
    water_by_keyed c.args.sources before c.args.upto.now e c.args.water is (ap is_progress what ∙ keyed) w

pub returns-in-Tuple-2 : goal.returns-in-Tuple-2
returns-in-Tuple-2 c = λ before e is what w.
    let keyed : is_progress c.args.what.now ≡ false = search rules in
    water_by_keyed c.args.sources before c.args.upto.now e c.args.water is (ap is_progress what ∙ keyed) w
