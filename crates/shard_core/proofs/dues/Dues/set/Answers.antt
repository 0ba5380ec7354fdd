-- A number at a place lowers the least of its block and group.
use Rattle.std.proofs.Common.{◌≡◌, ◌≤◌, ◌<◌, ◌/◌, ℕ, List, ap, arith, get_or, get_or-set_same, get_or-set_other, length, length-set, set, subst, sym, ⊎_elim}
use Rattle.std.specs.Prelude.{min}
use Rattle.std.proofs.lemmas.Bool.{cases_eq}
use Rattle.std.proofs.lemmas.List.{get_or_default}
use Rattle.shard_core.specs.Reached.{DueNumbers}
use Rattle.shard_core.proofs.dues.Dues.set.Goals as goal

module _ (numbers least : List ℕ) (at : ℕ → ℕ) (place due old new : ℕ) (within : place < length numbers) (beside : at place < length least)
    (bounds : (p : ℕ) → p < length numbers → get_or least (at p) 0 ≤ get_or numbers p 0) (old_is : old ≡ get_or least (at place) old) (new_is : new ≡ min old due) where
  here : get_or (set least (at place) new) (at place) 0 ≤ get_or (set numbers place due) place 0
  here = rw (get_or-set_same least (at place) new 0 beside, get_or-set_same numbers place due 0 within) (omega arith)

  elsewhere : (p : ℕ) → p < length numbers → get_or (set least (at place) new) (at p) 0 ≤ get_or numbers p 0
  elsewhere p l = ⊎_elim
      (λ (same : at p ≡ at place).
      let was : get_or least (at place) 0 ≤ get_or numbers p 0 = subst (λ b. get_or least b 0 ≤ get_or numbers p 0) same (bounds p l) in
      rw (same, get_or-set_same least (at place) new 0 beside) (omega (arith, get_or_default least (at place) old 0 beside)))
      (λ other. rw (get_or-set_other least (at place) (at p) new 0 other) (bounds p l))
      (cases_eq (at p) (at place))

  lowered : (p : ℕ) → p < length numbers → get_or (set least (at place) new) (at p) 0 ≤ get_or (set numbers place due) p 0
  lowered p l = ⊎_elim
      (λ (same : p ≡ place). subst (λ q. get_or (set least (at place) new) (at q) 0 ≤ get_or (set numbers place due) q 0) (sym same) here)
      (λ other. rw (get_or-set_other numbers place p due 0 other) (elsewhere p l))
      (cases_eq p place)

pub invariant_of-self : goal.invariant_of-self
invariant_of-self c =
    let numbers = c.self.inside.numbers.items in
    let blocks = c.self.inside.blocks.items in
    let groups = c.self.inside.groups.items in
    let place = c.args.place in
    let due = c.args.due in
    let within : place < length numbers = omega (arith, ap (λ (v : DueNumbers). length v.items) c.self.view_is) in
    let enough = c.self.invariant.0.enough in (
      record {
        enough = omega (arith, length-set {A = ℕ});
        no_greater = λ p l. lowered numbers blocks (λ q. q / 32) place due c.index.result.now c.min.result within (omega arith) c.self.invariant.0.no_greater c.index.ensures c.min.ensures p (omega (arith, length-set {A = ℕ}));
      },
      record {
        enough = omega (arith, length-set {A = ℕ});
        no_greater = λ p l. lowered numbers groups (λ q. q / 32 / 32) place due c.index-2.result.now c.min-2.result within (omega arith) c.self.invariant.1.no_greater c.index-2.ensures c.min-2.ensures p (omega (arith, length-set {A = ℕ}));
      },
    )
