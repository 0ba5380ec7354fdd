-- It is no greater than any number so far.
use Rattle.std.proofs.Common.{◌≤◌, ◌<◌, ℕ, get_or}
use Rattle.shard_core.proofs.dues.least_of.Given as goal

abbrev pub invariant-loop-at : goal.invariant-loop-at
invariant-loop-at l = (p : ℕ) → l.first ≤ p → p < l.at → l.least ≤ get_or l.numbers p 0
