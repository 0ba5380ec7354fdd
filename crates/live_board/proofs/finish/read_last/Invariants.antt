use Rattle.std.proofs.Common.{◌≡◌, length}
use Rattle.std.specs.Vec.{vec_capacity}
use Rattle.live_board.specs.Ending.{HasShownAll}
use Rattle.live_board.specs.Watching.{AreReads}
use Rattle.live_board.proofs.finish.read_last.Given as goal

abbrev pub invariant-lacking : goal.invariant-lacking
invariant-lacking l =
    AreReads l.course l.reads.items
    × (length l.reads.items ≡ l.counter)
    × (vec_capacity l.reads ≡ vec_capacity l.fn.reads)
    × HasShownAll l.course l.writer
