-- Each part stands for the same.
use Rattle.window_parts.proofs.either_part.EitherPartKeyPart.drop_settled.Goals as goal

pub returns-in-First-clause-stands : goal.returns-in-First-clause-stands
returns-in-First-clause-stands g c = rw c.in-First.is (λ m n time before more after loss earlier.
    (loss.stood.0, c.drop_settled.ensures.stands m n time before more after (record { water_is = loss.water_is; purge = loss.purge; stood = loss.stood.1 }) earlier))

pub returns-in-Second-clause-stands : goal.returns-in-Second-clause-stands
returns-in-Second-clause-stands g c = rw c.in-Second.is (λ m n time before more after loss earlier.
    (loss.stood.0, c.drop_settled-in-Second.ensures.stands m n time before more after (record { water_is = loss.water_is; purge = loss.purge; stood = loss.stood.1 }) earlier))
