-- One pair of a tree, under its key.
use Rattle.std.proofs.Common.{◌≡◌, ◌∙◌, ℕ, ◌+◌, ◌<◌, ◌≤◌, true, false, cond, eqb, Some, List, [], ◌∷◌, length, ap, sym, arith, inl, inr}
use Rattle.std.specs.Prelude.{◌⊎◌, ◌==◌, ◌&&◌, find, nat_le, nat_lt}
use Rattle.std.specs.List.{All}
use Rattle.std.specs.Option.{option_map}
use Rattle.std.proofs.lemmas.Bool.{eqb-true}
use Rattle.std.proofs.lemmas.Bool.Decides.{nat_tests}
use Rattle.std.proofs.lemmas.List.Elements.{All-weaker}
use Rattle.stream_base.proofs.Filters.{cases_of, filter_none}
use Rattle.agg_laws.specs.Laws.{MonoidLaws, total}
use Rattle.agg_laws.specs.Pairs as pairs
use Rattle.agg_laws.specs.Pairs.{AreRising, value_at, within}
use Rattle.agg_laws.proofs.RisingPairs.{rising_above, rising_second}

outside : (k m : ℕ) → k < m → (nat_le k m && nat_lt m (k + 1)) ≡ false
outside k m h = grind (arith, nat_tests)

inside : (k m : ℕ) → m ≡ k → (nat_le k m && nat_lt m (k + 1)) ≡ true
inside k m h = grind (arith, nat_tests)

other : (k m : ℕ) → eqb m k ≡ false → (nat_le k m && nat_lt m (k + 1)) ≡ false
other k m h = grind (arith, nat_tests)

module _ {M : Type 0} where
  none_above : (k : ℕ) (ps : List (ℕ × M)) → All (λ q. k < q.0) ps → within k (k + 1) ps ≡ []
  none_above k ps a =
      filter_none (λ p. nat_le k p.0 && nat_lt p.0 (k + 1)) ps
      (All-weaker (λ q. k < q.0) (λ q. (nat_le k q.0 && nat_lt q.0 (k + 1)) ≡ false) (λ q h. outside k q.0 h) ps a)

  above_it : (k : ℕ) (p : ℕ × M) (ps : List (ℕ × M)) → AreRising (p ∷ ps) → p.0 ≡ k → All (λ q. k < q.0) ps
  above_it k p ps h e = All-weaker (λ q. p.0 < q.0) (λ q. k < q.0) (λ q l. omega arith) ps (rising_above [] ps p h)

  -- at most one pair has a key
  pub one_at_most : (k : ℕ) (ps : List (ℕ × M)) → AreRising ps → length (within k (k + 1) ps) ≤ 1
  one_at_most k [] h = omega arith
  one_at_most k (p ∷ ps) h = by (cases_of (eqb p.0 k)) (one_at_most k ps (rising_second (p ∷ []) ps h))
    where
      by : (eqb p.0 k ≡ true) ⊎ (eqb p.0 k ≡ false) → length (within k (k + 1) ps) ≤ 1 → length (within k (k + 1) (p ∷ ps)) ≤ 1
      by (inl e) later =
          let same : p.0 ≡ k = eqb-true p.0 k e in
          omega (arith, ap (λ b. length (cond b (p ∷ within k (k + 1) ps) (within k (k + 1) ps))) (inside k p.0 same), ap length (none_above k ps (above_it k p ps h same)))
      by (inr e) later = omega (arith, ap (λ b. length (cond b (p ∷ within k (k + 1) ps) (within k (k + 1) ps))) (other k p.0 e))

  -- the pair that has it
  pub one_there : (k : ℕ) (b : M) (ps : List (ℕ × M)) → AreRising ps → value_at k ps ≡ Some b → within k (k + 1) ps ≡ (k, b) ∷ []
  one_there k b [] h e = absurd cc
  one_there k b (p ∷ ps) h e = by (cases_of (eqb p.0 k)) (one_there k b ps (rising_second (p ∷ []) ps h))
    where
      by : (eqb p.0 k ≡ true) ⊎ (eqb p.0 k ≡ false) → (value_at k ps ≡ Some b → within k (k + 1) ps ≡ (k, b) ∷ []) → within k (k + 1) (p ∷ ps) ≡ (k, b) ∷ []
      by (inl t) later =
          let same : p.0 ≡ k = eqb-true p.0 k t in
          let found : value_at k (p ∷ ps) ≡ Some p.1 = ap (λ c. option_map (λ (q : ℕ × M). q.1) (cond c (Some p) (find (λ (q : ℕ × M). q.0 == k) ps))) t in
          let value : p.1 ≡ b = some_same p.1 b (sym found ∙ e) in
          ap (λ c. cond c (p ∷ within k (k + 1) ps) (within k (k + 1) ps)) (inside k p.0 same)
          ∙ (λ i. (same i, value i) ∷ none_above k ps (above_it k p ps h same) i)
        where
          some_same : (x y : M) → Some x ≡ Some y → x ≡ y
          some_same x y e = cc
      by (inr t) later =
          let found : value_at k (p ∷ ps) ≡ value_at k ps = ap (λ c. option_map (λ (q : ℕ × M). q.1) (cond c (Some p) (find (λ (q : ℕ × M). q.0 == k) ps))) t in
          ap (λ c. cond c (p ∷ within k (k + 1) ps) (within k (k + 1) ps)) (other k p.0 t) ∙ later (sym found ∙ e)

-- what one pair's range comes to
pub read_one : {M : Type 0} {IsValue : M → Type 0} {empty : M} {op : M → M → M} → MonoidLaws IsValue empty op → (k : ℕ) (b : M) (ps : List (ℕ × M)) → AreRising ps → IsValue b → value_at k ps ≡ Some b → total empty op (pairs.values_of (within k (k + 1) ps)) ≡ b
read_one {M} {IsValue} {empty} {op} laws k b ps h v e = ap (λ l. total empty op (pairs.values_of l)) (one_there k b ps h e) ∙ laws.left_unit b v
