use Rattle.window_laws.proofs.DueFacts.{completed_later, nothing_completed}
use Rattle.window_laws.proofs.due.key_with_nothing_due_waits.Goals as goal

pub returns-clause-nothing : goal.returns-clause-nothing
returns-clause-nothing c = nothing_completed

pub returns-clause-later : goal.returns-clause-later
returns-clause-later c = completed_later
