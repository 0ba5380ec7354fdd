use Rattle.model_laws.proofs.Lawful.{never_dropped, told_in_order}
use Rattle.model_laws.proofs.routes.nothing_in_time_for_its_source_is_dropped.Goals as goal

pub returns-clause-told : goal.returns-clause-told
returns-clause-told c = told_in_order

pub returns-clause-in_time : goal.returns-clause-in_time
returns-clause-in_time c = never_dropped
