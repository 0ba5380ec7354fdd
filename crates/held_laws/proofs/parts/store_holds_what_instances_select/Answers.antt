use Rattle.held_laws.proofs.PartFacts.{few_held, holds_sessions, holds_stretches}
use Rattle.held_laws.proofs.parts.store_holds_what_instances_select.Goals as goal

pub returns-clause-sessions : goal.returns-clause-sessions
returns-clause-sessions c = holds_sessions

pub returns-clause-stretches : goal.returns-clause-stretches
returns-clause-stretches c = holds_stretches

pub returns-clause-few : goal.returns-clause-few
returns-clause-few c = few_held
