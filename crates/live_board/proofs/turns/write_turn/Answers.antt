use Rattle.std.proofs.Common.{arith}
use Rattle.live_board.proofs.TurnFacts.{turn_over}
use Rattle.live_board.proofs.turns.write_turn.Goals as goal

pub returns-clause-ok : goal.returns-clause-ok
returns-clause-ok g c = turn_over c.args.course.now c.lists.author c.args.n c.lists.i (omega (arith, c.lists-test.false)) c.lists.invariant
