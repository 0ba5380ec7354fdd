use Rattle.std.proofs.Common.{◌≡◌, drop, length, map}
use Rattle.std.specs.Prelude.{All}
use Rattle.std.specs.Vec.{vec_capacity}
use Rattle.live_board.specs.Ending.{AreReadsIn, HasShownAll}
use Rattle.live_board.proofs.finish.finish.Given as goal

abbrev pub invariant-watchers : goal.invariant-watchers
invariant-watchers l =
    (l.watchers.items ≡ drop l.counter l.fn.watchers.items)
    × (length l.lists.items ≡ l.counter)
    × (vec_capacity l.lists ≡ vec_capacity l.fn.lists)
    × All (AreReadsIn l.course l.many) (map (λ v. v.items) l.lists.items)
    × HasShownAll l.course l.writer
