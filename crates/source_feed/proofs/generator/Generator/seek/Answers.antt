-- The index of another source is passed over.
use Rattle.source_feed.specs.Generating.{IsAtOther}
use Rattle.source_feed.proofs.Dealing.{passed_over}
use Rattle.source_feed.proofs.generator.Generator.seek.Goals as goal

pub loop-self-preserved : goal.loop-self-preserved
loop-self-preserved c =
    let other : IsAtOther c.loop-self.self = c.is_at_other.ensures.0 c.loop-self-test.true in
    rw c.step.ensures (passed_over c.args.self.now c.loop-self.self c.loop-self.invariant other)
