use Rattle.std.proofs.Common.{◌≡◌, length}
use Rattle.std.specs.Prelude.{All}
use Rattle.std.specs.Vec.{vec_capacity}
use Rattle.live_board.specs.Tallies.{none_counted}
use Rattle.live_board.specs.Watching.{IsReady}
use Rattle.live_board.specs.Writing.{IsAt, board_of}
use Rattle.live_board.proofs.watcher.new_watchers.Given as goal

abbrev pub invariant-readers : goal.invariant-readers
invariant-readers l =
    (length l.watchers.items ≡ l.reader)
    × (vec_capacity l.watchers ≡ l.readers)
    × All (IsReady l.course l.many) l.watchers.items
    × IsAt (board_of l.course none_counted) l.writer
