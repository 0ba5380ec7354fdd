-- Each part tells of its own.
use Rattle.window_parts.proofs.either_part.EitherPartKeyPart.next_due.Goals as goal

pub returns-in-First-clause-some_at : goal.returns-in-First-clause-some_at
returns-in-First-clause-some_at g c = rw c.in-First.is (λ key m n at within. c.next_due.ensures.some_at key m n (record { water_is = at.water_is; lists = at.lists; store = at.store; held = at.held; stood = at.stood.1 }) within)

pub returns-in-Second-clause-some_at : goal.returns-in-Second-clause-some_at
returns-in-Second-clause-some_at g c = rw c.in-Second.is (λ key m n at within. c.next_due-in-Second.ensures.some_at key m n (record { water_is = at.water_is; lists = at.lists; store = at.store; held = at.held; stood = at.stood.1 }) within)
