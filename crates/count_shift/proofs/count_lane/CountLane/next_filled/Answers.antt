-- The tuple that fills the next instance is the same among all.
use Rattle.std.proofs.Common.{◌∙◌, ap, arith}
use Rattle.count_shift.specs.Counting.{next_filled}
use Rattle.count_shift.specs.Lane.{Laned}
use Rattle.count_shift.proofs.Behind.{same_next}
use Rattle.count_shift.proofs.count_lane.CountLane.next_filled.Goals as goal

pub returns : goal.returns
returns c = λ kept f.
    c.next_filled.ensures
    ∙ ap (λ l. next_filled c.args.count l c.args.water) c.deref.ensures.value
    ∙ ap (λ (l : Laned). next_filled c.args.count l.kept c.args.water) c.self.view_is
    ∙ same_next c.args.count c.args.water kept c.args.self.now f c.requires.0 c.args.water (omega arith)
