-- The marks that are left stay where marks leave again.
use Rattle.std.proofs.Common.{◌∙◌, ap, arith, length, sym}
use Rattle.slice_lists.specs.Touched.{marks_left}
use Rattle.slice_lists.proofs.LeaveFacts.{left_twice}
use Rattle.context_windows.proofs.mark_windows.MarkWindows.drop_needless.Goals as goal

pub returns-then-are_mostly_needless-clause-few : goal.returns-then-are_mostly_needless-clause-few
returns-then-are_mostly_needless-clause-few c =
    let time = c.args.time in
    let left = c.drop_settled.ensures.kept.marks in
    omega (arith, ap length (ap (marks_left time) left ∙ left_twice time c.args.self.now.marks ∙ sym left))
