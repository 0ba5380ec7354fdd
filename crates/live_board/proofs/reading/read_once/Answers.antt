use Rattle.live_board.proofs.ReadMore.{read_more}
use Rattle.live_board.proofs.Showing.{takes}
use Rattle.live_board.proofs.reading.read_once.Goals as goal

-- src/reading.rt:25:11
pub enter_as-requires : goal.enter_as-requires
enter_as-requires c x = takes _ _ x

-- src/reading.rt:23:1
pub returns-in-Ok-clause-some : goal.returns-in-Ok-clause-some
returns-in-Ok-clause-some c = rw c.push_reserved.ensures.items (rw c.leave.ensures.1 (rw c.get.ensures (read_more _ _ _ _ _ c.requires.known c.in-Ok.ensures.1)))
