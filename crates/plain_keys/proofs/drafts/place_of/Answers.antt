-- It is the end where the last time isn't later, and else so many tuples lie before the next time.
use Rattle.std.proofs.Common.{◌≡◌, ◌≤◌, ◌-◌, length, get_or, pos, subst, arith}
use Rattle.std.proofs.lemmas.Bool.Decides.{nat_tests}
use Rattle.stream_base.specs.declared.kept.Kept.{Kept}
use Rattle.plain_keys.proofs.Places.{end_is}
use Rattle.plain_keys.proofs.drafts.place_of.Goals as goal

pub returns-then-is_empty : goal.returns-then-is_empty
returns-then-is_empty c =
    let kept = c.args.kept.now in
    let none : length kept ≡ 0 = grind (arith, nat_tests, c.is_empty.ensures, c.if-is_empty.true) in
    record { within = omega arith; before = λ i d from to. absurd (omega arith); behind = λ i d from to. absurd (omega (arith, none)) }

pub returns-then-kept-time : goal.returns-then-kept-time
returns-then-kept-time c =
    let none : Kept = record { position = 0; time = 0; value = pos 0 } in
    let kept = c.args.kept.now in
    end_is kept c.args.time none c.requires.in_order
    (λ i s. let at : length kept - 1 ≡ i = omega arith in
    subst (λ n. (get_or kept n none).time ≤ c.args.time) at c.if-kept-time.true)
