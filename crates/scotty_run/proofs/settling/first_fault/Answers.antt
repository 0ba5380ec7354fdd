use Rattle.scotty_run.proofs.Settlings.{below_more}
use Rattle.scotty_run.proofs.settling.first_fault.Goals as goal

pub loop-i-preserved : goal.loop-i-preserved
loop-i-preserved g c = record { below = below_more c.args.ends.now c.loop-i.i _ c.loop-i-test.true c.in_default.not-Fault c.loop-i.invariant.below }
