use Rattle.std.proofs.Common.{◌≡◌, ◌+◌, length}
use Rattle.std.specs.Vec.{vec_capacity}
use Rattle.left_right.specs.Sides.{view}
use Rattle.live_board.specs.Rule.{HasRead}
use Rattle.live_board.proofs.reading.read_many.Given as goal

abbrev pub invariant-reads : goal.invariant-reads
invariant-reads g l =
    HasRead l.course (view l.reader.place) l.reads.items
    × (length l.reads.items ≡ length l.fn.reads.items + l.counter)
    × (vec_capacity l.reads ≡ vec_capacity l.fn.reads)
