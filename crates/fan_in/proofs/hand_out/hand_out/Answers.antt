use Rattle.std.proofs.Common.{refl, arith}
use Rattle.fan_in.proofs.Midway.{same_first}
use Rattle.fan_in.proofs.hand_out.hand_out.Goals as goal

pub loop-k-init : goal.loop-k-init
loop-k-init g c = record { same = same_first g.P.Port g.met.P.Port.laws c.args.ports.now; rest = λ k p l. refl; taken = λ k p l. absurd (omega arith) }
