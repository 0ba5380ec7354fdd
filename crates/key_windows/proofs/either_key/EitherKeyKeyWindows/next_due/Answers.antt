-- Each engine tells its own.
use Rattle.key_windows.proofs.either_key.EitherKeyKeyWindows.next_due.Goals as goal

pub returns-in-Full-clause-some_at : goal.returns-in-Full-clause-some_at
returns-in-Full-clause-some_at g c = rw c.in-Full.is c.next_due.ensures.some_at

pub returns-in-Lean-clause-some_at : goal.returns-in-Lean-clause-some_at
returns-in-Lean-clause-some_at g c = rw c.in-Lean.is c.next_due-in-Lean.ensures.some_at
