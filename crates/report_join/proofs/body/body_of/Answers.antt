-- The front of each form is cut off, and the last line.
use Rattle.std.proofs.Common.{◌≡◌, Bool, subst, sym}
use Rattle.stream_base.specs.Model.Text.{report_1, report_2}
use Rattle.part_laws.specs.Joined.{body_of}
use Rattle.report_join.specs.ShardReports.{form_told}
use Rattle.report_join.proofs.OneShard.{body_told, first_length, second_length}
use Rattle.report_join.proofs.body.body_of.Goals as goal

pub returns-then-second : goal.returns-then-second
returns-then-second c =
    subst (λ (b : Bool). c.without_last.result.now ≡ body_of (form_told b) c.args.text.now) (sym c.if-second.true)
    (body_told report_2 17 c.args.text.now c.behind.result.now c.without_last.result.now second_length c.behind.ensures c.without_last.ensures)

pub returns-else-second : goal.returns-else-second
returns-else-second c =
    subst (λ (b : Bool). c.without_last-else-second.result.now ≡ body_of (form_told b) c.args.text.now) (sym c.if-second.false)
    (body_told report_1 8 c.args.text.now c.behind-else-second.result.now c.without_last-else-second.result.now first_length c.behind-else-second.ensures c.without_last-else-second.ensures)
