-- The first entries are followed, and the others' changes are left.
use Rattle.std.proofs.Common.{map}
use Rattle.tail_text.proofs.FollowingFacts.{IsAlong}
use Rattle.tail_text.proofs.following.tails_of.Given as goal

abbrev pub invariant-loop-position : goal.invariant-loop-position
invariant-loop-position g l = IsAlong l.fn.def l.lateness l.sources l.shard.journal l.position l.tails (map (λ v. v.items) l.lists.items)
