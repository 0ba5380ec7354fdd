-- Both passes are of the desk: to offer and to meet leaves whose pass each is.
use Rattle.std.proofs.Common.{◌≡◌, ◌<◌, ℕ, zero, suc, [], ◌∷◌, length, get_or, arith, rules, subst, sym}
use Rattle.turnstile.specs.Passes.{IsPassOf}
use Rattle.thread_tests.proofs.desks.offers_of_two_passes_stand_under_their_numbers.Goals as goal

both : {X : Type 0} (of : X → Type 0) (one other : X) → of one → of other → (k : ℕ) (d : X) → k < length (one ∷ other ∷ []) → of (get_or (one ∷ other ∷ []) k d)
both of one other a b zero d l = a
both of one other a b (suc zero) d l = b
both of one other a b (suc (suc k)) d l = absurd (omega arith)

pub close-requires-clause-own : goal.close-requires-clause-own
close-requires-clause-own g c = λ k d l.
    let of : _ → Type 0 = IsPassOf c.in_ok-desk.desk in
    let zero : of c.meet.new.one = search rules in
    let one : of c.meet.new.other = search rules in
    let are : c.in_ok-passes.passes.items ≡ c.meet.new.one ∷ c.meet.new.other ∷ [] = search rules in
    subst (λ xs. of (get_or xs k d)) (sym are) (both of c.meet.new.one c.meet.new.other zero one k d (subst (λ xs. k < length xs) are l))
