-- The start is 0 or the place of a tuple.
use Rattle.std.proofs.Common.{◌<◌, ◌≤◌, length}
use Rattle.plain_windows.proofs.places.tuples_before.Given as goal

abbrev pub invariant-loop-start : goal.invariant-loop-start
invariant-loop-start l = (l.start ≤ length l.kept) × (0 < l.start → l.start < length l.kept)

abbrev pub decreases-loop-start : goal.decreases-loop-start
decreases-loop-start l = l.start
