use Rattle.std.proofs.Common.{◌-◌}
use Rattle.source_feed.specs.Generating.{LeavesAll}
use Rattle.source_feed.proofs.generator.Generator.seek.Given as goal

abbrev pub invariant-loop-self : goal.invariant-loop-self
invariant-loop-self l = LeavesAll l.fn.self l.self

abbrev pub decreases-loop-self : goal.decreases-loop-self
decreases-loop-self l = l.self.rows - l.self.index
