use Rattle.context_windows.proofs.Aligning.{asked_aligned, due_aligned, told_aligned}
use Rattle.context_windows.proofs.laws.slices_part_at_sessions.Goals as goal

pub returns-clause-asked : goal.returns-clause-asked
returns-clause-asked c = asked_aligned

pub returns-clause-told : goal.returns-clause-told
returns-clause-told c = told_aligned

pub returns-clause-due : goal.returns-clause-due
returns-clause-due c = due_aligned
