-- Lists are the same where their elements are.
use Rattle.std.proofs.Common.{rules}
use Rattle.std.proofs.lemmas.Slice.Eq.{slice_eq-Decides}
use Rattle.report_check.proofs.routes.are_all_same.Goals as goal

pub returns : goal.returns
returns c = slice_eq-Decides (λ a b. search rules) c.args.left.now c.args.right.now c.eq.result c.eq.ensures
