use Rattle.model_laws.proofs.Absent.{nothing_kept}
use Rattle.stream_base.proofs.KindFacts.{nothing_stands}
use Rattle.model_laws.proofs.kept.absent_key_has_nothing.Goals as goal

pub returns-clause-kept : goal.returns-clause-kept
returns-clause-kept c = nothing_kept

pub returns-clause-stands : goal.returns-clause-stands
returns-clause-stands c = nothing_stands
