-- What is quiet in the one engine is so in the choice, and the other way round.
use Rattle.key_windows.proofs.either_key.EitherKeyKeyWindows.put.Goals as goal

pub returns-in-Full-clause-due : goal.returns-in-Full-clause-due
returns-in-Full-clause-due g c stays = rw c.in-Full.is (λ kept marks due fits quiet.
    let then = c.put.ensures.due stays kept marks due fits (record { nothing_changes = quiet.nothing_changes; waits = quiet.waits }) in
    record { nothing_changes = then.nothing_changes; waits = then.waits })

pub returns-in-Lean-clause-due : goal.returns-in-Lean-clause-due
returns-in-Lean-clause-due g c stays = rw c.in-Lean.is (λ kept marks due fits quiet.
    let then = c.put-in-Lean.ensures.due stays kept marks due fits (record { nothing_changes = quiet.nothing_changes; waits = quiet.waits }) in
    record { nothing_changes = then.nothing_changes; waits = then.waits })
