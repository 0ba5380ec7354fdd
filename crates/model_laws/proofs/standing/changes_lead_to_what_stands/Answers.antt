use Rattle.model_laws.proofs.RowChanges.{nothing_first, rows_follow}
use Rattle.model_laws.proofs.RowCounts.{rows_are_counted}
use Rattle.model_laws.proofs.standing.changes_lead_to_what_stands.Goals as goal

pub returns-clause-first : goal.returns-clause-first
returns-clause-first c = nothing_first

pub returns-clause-next : goal.returns-clause-next
returns-clause-next c = rows_follow

pub returns-clause-counted : goal.returns-clause-counted
returns-clause-counted c = rows_are_counted
