use Rattle.std.proofs.Common.{length, reverse, vec_len}
use Rattle.fan_in.specs.Floors.{known_in}
use Rattle.fan_in.proofs.Ending.{IsClosing}
use Rattle.fan_in.proofs.turns.closing.close_all.Given as goal

abbrev pub invariant-loop-desk : goal.invariant-loop-desk
invariant-loop-desk g l = IsClosing (known_in l.plan) l.plan.sources (length l.initial.desks.items) l.initial.rows l.desks.items l.zeros.items l.rows (reverse l.shards.items)

abbrev pub decreases-loop-desk : goal.decreases-loop-desk
decreases-loop-desk g l = vec_len l.desks
