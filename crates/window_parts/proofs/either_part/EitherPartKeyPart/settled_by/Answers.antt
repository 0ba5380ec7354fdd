-- Each part tells of its own.
use Rattle.window_parts.proofs.either_part.EitherPartKeyPart.settled_by.Goals as goal

pub returns-in-First-clause-settles : goal.returns-in-First-clause-settles
returns-in-First-clause-settles g c = rw c.in-First.is (λ m n s w water earlier is at. c.settled_by.ensures.settles m n s w water earlier is (record { water_is = at.water_is; lists = at.lists; store = at.store; held = at.held; stood = at.stood.1 }))

pub returns-in-Second-clause-settles : goal.returns-in-Second-clause-settles
returns-in-Second-clause-settles g c = rw c.in-Second.is (λ m n s w water earlier is at. c.settled_by-in-Second.ensures.settles m n s w water earlier is (record { water_is = at.water_is; lists = at.lists; store = at.store; held = at.held; stood = at.stood.1 }))
