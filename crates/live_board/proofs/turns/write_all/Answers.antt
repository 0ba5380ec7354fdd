use Rattle.std.proofs.Common.{arith}
use Rattle.live_board.proofs.TurnFacts.{all_turns}
use Rattle.live_board.proofs.turns.write_all.Goals as goal

pub returns-clause-ok : goal.returns-clause-ok
returns-clause-ok g c = all_turns c.args.course.now c.turns.author c.turns.n (omega (arith, c.turns.auto.n-end, c.turns-test.false, c.longest-n-end.ensures)) c.turns.invariant
