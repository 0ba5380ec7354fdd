-- A mark takes no step.
use Rattle.tail_windows.proofs.tails.Tails.follow.Goals as goal

pub returns-in-Mark : goal.returns-in-Mark
returns-in-Mark g c = c.take_mark.ensures c.args.entry.now c.in-Mark.key c.args.steps.now c.in-Mark.is
