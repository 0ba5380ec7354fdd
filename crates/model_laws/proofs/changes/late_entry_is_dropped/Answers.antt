use Rattle.model_laws.proofs.ChangesAfter.{dropped_where_late, late_is_dropped}
use Rattle.model_laws.proofs.changes.late_entry_is_dropped.Goals as goal

pub returns-clause-exactly : goal.returns-clause-exactly
returns-clause-exactly c = dropped_where_late

pub returns-clause-alone : goal.returns-clause-alone
returns-clause-alone c = late_is_dropped
