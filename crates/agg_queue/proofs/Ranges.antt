-- How the ranges keep their aggregates where an item comes or goes, or a boundary moves.
use Rattle.std.proofs.Common.{◌≡◌, ◌≤◌, ◌<◌, ◌+◌, ◌-◌, ℕ, suc, List, [], ◌∷◌, length, get_or, drop, set, sym, ap, subst, ◌∙◌, arith, inl, inr}
use Rattle.std.proofs.lemmas.List.{get_or-set_same, get_or-set_other, length-set}
use Rattle.std.proofs.lemmas.List.Elements.{All-tail}
use Rattle.std.proofs.lemmas.Bool.{cases_eq}
use Rattle.agg_queue.specs.declared.bounds.Bounds.{Bounds}
use Rattle.agg_queue.specs.Ranges.{KeepsTotals, AreInOrder, total_within}

-- another aggregate at one place, which is right there
written : {M : Type 0} (empty : M) (aggregates : List M) (at i : ℕ) (a w : M) → at < length aggregates → (i ≡ at → a ≡ w) → ((i ≡ at → ⊥) → get_or aggregates i empty ≡ w) → get_or (set aggregates at a) i empty ≡ w
written empty aggregates at i a w lt here there =
    elim (cases_eq i at) [
      | inl e ↦ rw e (get_or-set_same aggregates at a empty lt) ∙ here e
      | inr ne ↦ get_or-set_other aggregates at i a empty ne ∙ there ne
    ]

module _ {M : Type 0} {IsValue : M → Type 0} {empty : M} {op : M → M → M} where
  -- the first cell of the left range joins the front
  pub keeps_left : (values aggregates : List M) (bounds : Bounds) (a : M) → KeepsTotals IsValue empty op values aggregates bounds → bounds.left < bounds.right → a ≡ total_within empty op values bounds.left bounds.back → KeepsTotals IsValue empty op values (set aggregates bounds.left a) (record bounds { left = bounds.left + 1 })
  keeps_left values aggregates bounds a k lt e =
      let order : AreInOrder bounds (length values) = k.order in
      let aligned : length aggregates ≡ length values = k.aligned in
      let there : bounds.left < length aggregates = omega arith in
      record {
        are_values = k.are_values;
        aligned = length-set aggregates bounds.left a ∙ k.aligned;
        order = record { left = omega arith; right = order.right; accumulator = order.accumulator; back = order.back };
        front = λ i high. written empty aggregates bounds.left i a _ there (λ same. e ∙ ap (λ n. total_within empty op values n bounds.back) (sym same)) (λ ne. k.front i (omega arith));
        left = λ i low high. written empty aggregates bounds.left i a _ there (λ same. absurd (omega arith)) (λ ne. k.left i (omega arith) high);
        right = λ i low high. written empty aggregates bounds.left i a _ there (λ same. absurd (omega arith)) (λ ne. k.right i low high);
        accumulator = λ i low high. written empty aggregates bounds.left i a _ there (λ same. absurd (omega arith)) (λ ne. k.accumulator i low high);
        back = λ i low high. written empty aggregates bounds.left i a _ there (λ same. absurd (omega arith)) (λ ne. k.back i low high);
      }

  -- the last cell of the right range joins the accumulator
  pub keeps_accumulator : (values aggregates : List M) (bounds : Bounds) (a : M) → KeepsTotals IsValue empty op values aggregates bounds → bounds.right < bounds.accumulator → a ≡ total_within empty op values (bounds.accumulator - 1) bounds.back → KeepsTotals IsValue empty op values (set aggregates (bounds.accumulator - 1) a) (record bounds { accumulator = bounds.accumulator - 1 })
  keeps_accumulator values aggregates bounds a k lt e =
      let order : AreInOrder bounds (length values) = k.order in
      let aligned : length aggregates ≡ length values = k.aligned in
      let there : bounds.accumulator - 1 < length aggregates = omega arith in
      record {
        are_values = k.are_values;
        aligned = length-set aggregates (bounds.accumulator - 1) a ∙ k.aligned;
        order = record { left = order.left; right = omega arith; accumulator = omega arith; back = order.back };
        front = λ i high. written empty aggregates (bounds.accumulator - 1) i a _ there (λ same. absurd (omega arith)) (λ ne. k.front i high);
        left = λ i low high. written empty aggregates (bounds.accumulator - 1) i a _ there (λ same. absurd (omega arith)) (λ ne. k.left i low high);
        right = λ i low high. written empty aggregates (bounds.accumulator - 1) i a _ there (λ same. absurd (omega arith)) (λ ne. k.right i low (omega arith));
        accumulator = λ i low high. written empty aggregates (bounds.accumulator - 1) i a _ there (λ same. e ∙ ap (λ n. total_within empty op values n bounds.back) (sym same)) (λ ne. k.accumulator i (omega arith) high);
        back = λ i low high. written empty aggregates (bounds.accumulator - 1) i a _ there (λ same. absurd (omega arith)) (λ ne. k.back i low high);
      }

  without_first : (value : M) (rest aggregates : List M) (l r a b : ℕ) → KeepsTotals IsValue empty op (value ∷ rest) aggregates (record { left = suc l; right = suc r; accumulator = suc a; back = suc b }) → KeepsTotals IsValue empty op rest (drop 1 aggregates) (record { left = l; right = r; accumulator = a; back = b })
  without_first value rest [] l r a b k = let e : 0 ≡ suc (length rest) = k.aligned in absurd (omega arith)
  without_first value rest (g ∷ gs) l r a b k = record {
    are_values = All-tail IsValue value rest k.are_values;
    aligned = let e : suc (length gs) ≡ suc (length rest) = k.aligned in omega arith;
    order = let o : AreInOrder (record { left = suc l; right = suc r; accumulator = suc a; back = suc b }) (suc (length rest)) = k.order in record { left = omega arith; right = omega arith; accumulator = omega arith; back = omega arith };
    front = λ i high. k.front (suc i) (omega arith);
    left = λ i low high. k.left (suc i) (omega arith) (omega arith);
    right = λ i low high. let e : suc i + 1 ≡ suc (i + 1) = omega arith in k.right (suc i) (omega arith) (omega arith) ∙ ap (λ n. total_within empty op (value ∷ rest) (suc r) n) e;
    accumulator = λ i low high. k.accumulator (suc i) (omega arith) (omega arith);
    back = λ i low high. let e : suc i + 1 ≡ suc (i + 1) = omega arith in k.back (suc i) (omega arith) (omega arith) ∙ ap (λ n. total_within empty op (value ∷ rest) (suc b) n) e;
  }

  -- the first cell is gone
  pub keeps_without_first : (values rest aggregates left : List M) (value : M) (bounds : Bounds) → KeepsTotals IsValue empty op values aggregates bounds → 1 ≤ bounds.left → values ≡ value ∷ rest → left ≡ drop 1 aggregates → KeepsTotals IsValue empty op rest left (record { left = bounds.left - 1; right = bounds.right - 1; accumulator = bounds.accumulator - 1; back = bounds.back - 1 })
  keeps_without_first values rest aggregates left value bounds k lt e d =
      let order : AreInOrder bounds (length values) = k.order in
      let l : suc (bounds.left - 1) ≡ bounds.left = omega arith in
      let r : suc (bounds.right - 1) ≡ bounds.right = omega arith in
      let a : suc (bounds.accumulator - 1) ≡ bounds.accumulator = omega arith in
      let b : suc (bounds.back - 1) ≡ bounds.back = omega arith in
      let t : KeepsTotals IsValue empty op (value ∷ rest) aggregates (record { left = suc (bounds.left - 1); right = suc (bounds.right - 1); accumulator = suc (bounds.accumulator - 1); back = suc (bounds.back - 1) }) =
      rw (l, r, a, b) (subst (λ (xs : List M). KeepsTotals IsValue empty op xs aggregates bounds) e k) in
      rw d (without_first value rest aggregates (bounds.left - 1) (bounds.right - 1) (bounds.accumulator - 1) (bounds.back - 1) t)
