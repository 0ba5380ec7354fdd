-- What is left stands behind what was given.
use Rattle.std.proofs.Common.{arith}
use Rattle.std.proofs.lemmas.Grind.{common_steps}
use Rattle.outside.proofs.mem_source.MemSourceSource.read.Goals as goal

pub returns-clause-word : goal.returns-clause-word
returns-clause-word c = record { left = c.split_at.result.1.now; parts = grind (arith, common_steps); all = λ e. grind (arith, common_steps) }
