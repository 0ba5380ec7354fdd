-- What was given stands in front of what is left.
use Rattle.std.proofs.Common.{subst}
use Rattle.outside.specs.Memory.{MemSourceState}
use Rattle.outside.specs.Outside.{KeepsWord}
use Rattle.outside.proofs.mem_source.MemSource.into_log.Goals as goal

pub returns-clause-word : goal.returns-clause-word
returns-clause-word c =
    let kept = c.self.invariant in
    subst (λ (s : MemSourceState). KeepsWord s.reads s.whole) c.self.view_is record {
      left = c.self.inside.left.now;
      parts = kept.1;
      all = kept.2;
    }
