-- The first tuple of the session stands at its place, and the last before its end.
use Rattle.std.proofs.Common.{◌≡◌, ◌≤◌, ◌∙◌, ◌+◌, ◌-◌, take, drop, get_or, length, ap, sym, subst, arith}
use Rattle.stream_base.specs.Model.Changes.{Moment}
use Rattle.plain_windows.proofs.PlaceFacts.{some_tuple}
use Rattle.plain_windows.proofs.RankFacts.{last_of_part}
use Rattle.plain_windows.proofs.RunFacts.{first_of_part}
use Rattle.plain_windows.proofs.sessions.session_over.Goals as goal

pub returns-clause-is : goal.returns-clause-is
returns-clause-is c =
    let gap = c.args.gap in
    let kept = c.view.inside.kept.now in
    let first = c.args.first in
    let end = c.args.end in
    let there : end ≤ length kept = subst (λ (m : Moment). end ≤ length m.kept) (sym c.view.view_is) c.requires.there in
    let place : first + (end - first) - 1 ≡ end - 1 = omega arith in
    let low = first_of_part kept first (end - first) some_tuple (omega arith) (omega (arith, there)) in
    let last = last_of_part kept first (end - first) some_tuple (omega arith) (omega (arith, there)) ∙ ap (λ n. (get_or kept n some_tuple).time) place in
    rw (← c.view.view_is) (λ i. record { low = sym low i; high = sym last i + gap; bound = sym last i + gap; chosen = take (end - first) (drop first kept) })
