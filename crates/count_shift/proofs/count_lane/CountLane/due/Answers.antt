-- The completions are as many as their numbers.
use Rattle.std.proofs.Common.{◌≡◌, ◌∙◌, arith, rules, sym}
use Rattle.std.specs.Prelude.{min}
use Rattle.count_shift.specs.Counting.{events, move_changes}
use Rattle.count_shift.proofs.Behind.{same_moves}
use Rattle.count_shift.proofs.Shift.{length_of_move}
use Rattle.count_shift.proofs.count_lane.CountLane.due.Goals as goal

pub returns-clause-rows : goal.returns-clause-rows
returns-clause-rows c = λ window func key marks kept f.
    let number : c.saturating_sub.result ≡ move_changes c.args.count c.args.self.now.kept c.args.old c.args.new = search rules in
    number
    ∙ same_moves c.args.count (min c.args.old c.args.new) kept c.args.self.now f c.requires.0 c.args.old c.args.new (omega arith) (omega arith)
    ∙ sym (length_of_move window (events c.args.count func) key kept marks c.requires f.ordered c.args.old c.args.new)
