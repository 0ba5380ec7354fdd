-- What an edit of pairs is, where the newest of them stand in a row beside the rest.
use Rattle.std.proofs.Common.{◌≡◌, ◌∙◌, ℕ, ◌+◌, ◌*◌, ◌^◌, ◌<◌, ◌≤◌, zero, suc, Bool, true, false, not, cond, ◌||◌, Some, List, [], ◌∷◌, ◌++◌, length, ap, sym, subst, refl, arith, append_assoc, length-append, inl, inr}
use Rattle.std.specs.Prelude.{◌⊎◌, ◌==◌, ◌&&◌, ◌/◌, ◌-◌, find, max, nat_le, nat_lt}
use Rattle.std.specs.Option.{option_map}
use Rattle.std.proofs.lemmas.Bool.Decides.{nat_tests}
use Rattle.std.proofs.lemmas.List.{append-nil, map-append}
use Rattle.std.proofs.lemmas.List.Elements.{All-append, All-cons, All-filter, All-map, All-nil, All-weaker, filter-append}
use Rattle.std.proofs.lemmas.List.Folds.{list_any-append}
use Rattle.agg_laws.specs.Counters.{WorksNear}
use Rattle.agg_laws.specs.Pairs.{AreRising, distance, has_key, inserted, least_key, pairs_below, pairs_from, replaced, value_at, within, without}
use Rattle.agg_laws.proofs.Distances.{distance-append, distance-end}
use Rattle.agg_laws.proofs.RisingPairs.{has_key-between, inserted-parts, pairs_below-parts, pairs_from-parts, replaced-absent, rising_above, value_at-absent, value_at-middle, without-absent, without-middle}
use Rattle.stream_base.proofs.Filters.{cases_of, filter_none}
use Rattle.partials.specs.Apart.{AreBelow, AreFrom, IsReachOver, SpendsNear, row_reach}

left_false : (a b : Bool) → (a || b) ≡ false → a ≡ false
left_false true b h = h
left_false false b h = refl

left_true : (a b : Bool) → (a || b) ≡ true → b ≡ false → a ≡ true
left_true true b h e = refl
left_true false b h e = sym (sym h ∙ e)

right_false : (a b : Bool) → (a || b) ≡ false → b ≡ false
right_false true b h = absurd cc
right_false false b h = h

right_true : (a b : Bool) → (a || b) ≡ true → a ≡ false → b ≡ true
right_true true b h e = absurd cc
right_true false b h e = h

other_key : (m k : ℕ) → (m == k) ≡ false → m ≡ k → ⊥
other_key m k h e = grind (arith, nat_tests)

pub above_other : (k low : ℕ) → nat_lt low k ≡ false → (low ≡ k → ⊥) → k < low
above_other k low h other = let l : k ≤ low = not_below k low h in omega arith
  where
    not_below : (k low : ℕ) → nat_lt low k ≡ false → k ≤ low
    not_below k low h = grind (arith, nat_tests)

outside : (k low high : ℕ) → k < low → (nat_le low k && nat_lt k high) ≡ false
outside k low high h = grind (arith, nat_tests)

beyond : (k low high : ℕ) → high ≤ k → (nat_le low k && nat_lt k high) ≡ false
beyond k low high h = grind (arith, nat_tests)

-- ---- the reach of a row
pub row_folds : (n : ℕ) → n ≤ 32 * (row_reach n + 2)
row_folds n = omega arith

-- by trying each
powers : (q n : ℕ) → q ≤ 8 → 32 * q ≤ n → 2 ^ (q - 1) ≤ n + 1
powers zero n l h = omega arith
powers (suc zero) n l h = omega arith
powers (suc (suc zero)) n l h = omega arith
powers (suc (suc (suc zero))) n l h = omega arith
powers (suc (suc (suc (suc zero)))) n l h = omega arith
powers (suc (suc (suc (suc (suc zero))))) n l h = omega arith
powers (suc (suc (suc (suc (suc (suc zero)))))) n l h = omega arith
powers (suc (suc (suc (suc (suc (suc (suc zero))))))) n l h = omega arith
powers (suc (suc (suc (suc (suc (suc (suc (suc zero)))))))) n l h = omega arith
powers (suc (suc (suc (suc (suc (suc (suc (suc (suc q))))))))) n l h = absurd (omega arith)

pub row_bounded : (n : ℕ) → n ≤ 256 → 2 ^ row_reach n ≤ n + 1
row_bounded n l = powers (n / 32) n (omega arith) (omega arith)

module _ {M : Type 0} where
  pub weaker_below : (edge k : ℕ) (ps : List (ℕ × M)) → edge ≤ k → AreBelow edge ps → AreBelow k ps
  weaker_below edge k ps l h = All-weaker (λ p. p.0 < edge) (λ p. p.0 < k) (λ p b. omega arith) ps h

  pub from_next : (k : ℕ) (ys : List (ℕ × M)) → AreFrom (k + 1) ys → AreFrom k ys
  from_next k ys h = All-weaker (λ p. k + 1 ≤ p.0) (λ p. k ≤ p.0) (λ p l. omega arith) ys h

  -- ---- where a key is absent
  pub absent_behind : (edge k : ℕ) (xs : List (ℕ × M)) → edge ≤ k → AreBelow edge xs → has_key k xs ≡ false
  absent_behind edge k xs l h = ap (has_key k) (sym (append-nil xs)) ∙ has_key-between k xs [] (weaker_below edge k xs l h) (All-nil (λ p. k < p.0))

  pub absent_before : (edge k : ℕ) (ys : List (ℕ × M)) → k < edge → AreFrom edge ys → has_key k ys ≡ false
  absent_before edge k ys l h = has_key-between k [] ys (All-nil (λ p. p.0 < k)) (All-weaker (λ p. edge ≤ p.0) (λ p. k < p.0) (λ p b. omega arith) ys h)

  -- ---- an insertion in the tree
  pub early_inserted : (k : ℕ) (v : M) (xs ys : List (ℕ × M)) → AreFrom k ys → inserted k v (xs ++ ys) ≡ inserted k v xs ++ ys
  early_inserted k v xs ys h =
      let none : pairs_below k ys ≡ [] = pairs_below-parts k [] ys (All-nil (λ p. p.0 < k)) h in
      let all : pairs_from k ys ≡ ys = pairs_from-parts k [] ys (All-nil (λ p. p.0 < k)) h in
      let front : pairs_below k (xs ++ ys) ≡ pairs_below k xs = filter-append (λ p. nat_lt p.0 k) xs ys ∙ ap (λ l. pairs_below k xs ++ l) none ∙ append-nil (pairs_below k xs) in
      let back : pairs_from k (xs ++ ys) ≡ pairs_from k xs ++ ys = filter-append (λ p. nat_le k p.0) xs ys ∙ ap (λ l. pairs_from k xs ++ l) all in
      (λ i. front i ++ (k, v) ∷ back i)
      ∙ sym (append_assoc (pairs_below k xs) ((k, v) ∷ pairs_from k xs) ys)

  pub below_inserted : (edge k : ℕ) (v : M) (xs : List (ℕ × M)) → AreBelow edge xs → AreBelow (max edge (k + 1)) (inserted k v xs)
  below_inserted edge k v xs h =
      let all : AreBelow (max edge (k + 1)) xs = weaker_below edge (max edge (k + 1)) xs (omega arith) h in
      All-append (λ p. p.0 < max edge (k + 1)) (pairs_below k xs) ((k, v) ∷ pairs_from k xs) (All-filter (λ p. nat_lt p.0 k) (λ p. p.0 < max edge (k + 1)) xs all)
      (All-cons (λ p. p.0 < max edge (k + 1)) (k, v) (pairs_from k xs) (omega arith) (All-filter (λ p. nat_le k p.0) (λ p. p.0 < max edge (k + 1)) xs all))

  pub from_both : (edge k : ℕ) (ys : List (ℕ × M)) → AreFrom edge ys → AreFrom (k + 1) ys → AreFrom (max edge (k + 1)) ys
  from_both edge k ys h n i d l = let a = h i d l in let b = n i d l in omega arith

  -- ---- an insertion in the row
  pub near_inserted : (edge k : ℕ) (v : M) (xs ys : List (ℕ × M)) → edge ≤ k → AreBelow edge xs → inserted k v (xs ++ ys) ≡ xs ++ inserted k v ys
  near_inserted edge k v xs ys l b =
      let h : AreBelow k xs = weaker_below edge k xs l b in
      let all : pairs_below k xs ≡ xs = ap (pairs_below k) (sym (append-nil xs)) ∙ pairs_below-parts k xs [] h (All-nil (λ p. k ≤ p.0)) in
      let none : pairs_from k xs ≡ [] = ap (pairs_from k) (sym (append-nil xs)) ∙ pairs_from-parts k xs [] h (All-nil (λ p. k ≤ p.0)) in
      let front : pairs_below k (xs ++ ys) ≡ xs ++ pairs_below k ys = filter-append (λ p. nat_lt p.0 k) xs ys ∙ ap (λ l. l ++ pairs_below k ys) all in
      let back : pairs_from k (xs ++ ys) ≡ pairs_from k ys = filter-append (λ p. nat_le k p.0) xs ys ∙ ap (λ l. l ++ pairs_from k ys) none in
      (λ i. front i ++ (k, v) ∷ back i)
      ∙ append_assoc xs (pairs_below k ys) ((k, v) ∷ pairs_from k ys)

  pub from_inserted : (edge k : ℕ) (v : M) (ys : List (ℕ × M)) → edge ≤ k → AreFrom edge ys → AreFrom edge (inserted k v ys)
  from_inserted edge k v ys l h =
      All-append (λ p. edge ≤ p.0) (pairs_below k ys) ((k, v) ∷ pairs_from k ys) (All-filter (λ p. nat_lt p.0 k) (λ p. edge ≤ p.0) ys h)
      (All-cons (λ p. edge ≤ p.0) (k, v) (pairs_from k ys) l (All-filter (λ p. nat_le k p.0) (λ p. edge ≤ p.0) ys h))

  -- ---- a key that isn't in the row
  pub there_inside : (k : ℕ) (xs ys : List (ℕ × M)) → has_key k (xs ++ ys) ≡ true → has_key k ys ≡ false → has_key k xs ≡ true
  there_inside k xs ys h e = left_true (has_key k xs) (has_key k ys) (sym (list_any-append (λ p. p.0 == k) xs ys) ∙ h) e

  pub replaced_inside : (k : ℕ) (v : M) (xs ys : List (ℕ × M)) → has_key k ys ≡ false → replaced k v (xs ++ ys) ≡ replaced k v xs ++ ys
  replaced_inside k v xs ys e = map-append (λ p. cond (p.0 == k) (k, v) p) xs ys ∙ ap (λ l. replaced k v xs ++ l) (replaced-absent k ys e v)

  stays_below : (edge k : ℕ) (v : M) (p : ℕ × M) → p.0 < edge → (cond (p.0 == k) (k, v) p).0 < edge
  stays_below edge k v p h = grind (arith, nat_tests)

  pub below_replaced : (edge k : ℕ) (v : M) (xs : List (ℕ × M)) → AreBelow edge xs → AreBelow edge (replaced k v xs)
  below_replaced edge k v xs h =
      All-map (λ p. p.0 < edge) (λ p. cond (p.0 == k) (k, v) p) xs
      (All-weaker (λ p. p.0 < edge) (λ p. (cond (p.0 == k) (k, v) p).0 < edge) (λ p b. stays_below edge k v p b) xs h)

  pub without_inside : (k : ℕ) (xs ys : List (ℕ × M)) → has_key k ys ≡ false → without k (xs ++ ys) ≡ without k xs ++ ys
  without_inside k xs ys e = filter-append (λ p. not (p.0 == k)) xs ys ∙ ap (λ l. without k xs ++ l) (without-absent k ys e)

  pub below_without : (edge k : ℕ) (xs : List (ℕ × M)) → AreBelow edge xs → AreBelow edge (without k xs)
  below_without edge k xs h = All-filter (λ p. not (p.0 == k)) (λ p. p.0 < edge) xs h

  pub value_inside : (k : ℕ) (xs ys : List (ℕ × M)) → has_key k ys ≡ false → value_at k (xs ++ ys) ≡ value_at k xs
  value_inside k [] ys e = value_at-absent k ys e
  value_inside k (p ∷ xs) ys e = by (p.0 == k) (value_inside k xs ys e)
    where
      by : (b : Bool) → value_at k (xs ++ ys) ≡ value_at k xs → option_map (λ (q : ℕ × M). q.1) (cond b (Some p) (find (λ q. q.0 == k) (xs ++ ys))) ≡ option_map (λ (q : ℕ × M). q.1) (cond b (Some p) (find (λ q. q.0 == k) xs))
      by true later = refl
      by false later = later

  -- ---- a key that isn't in the tree
  pub there_near : (k : ℕ) (xs ys : List (ℕ × M)) → has_key k (xs ++ ys) ≡ true → has_key k xs ≡ false → has_key k ys ≡ true
  there_near k xs ys h e = right_true (has_key k xs) (has_key k ys) (sym (list_any-append (λ p. p.0 == k) xs ys) ∙ h) e

  pub replaced_near : (k : ℕ) (v : M) (xs ys : List (ℕ × M)) → has_key k xs ≡ false → replaced k v (xs ++ ys) ≡ xs ++ replaced k v ys
  replaced_near k v xs ys e = map-append (λ p. cond (p.0 == k) (k, v) p) xs ys ∙ ap (λ l. l ++ replaced k v ys) (replaced-absent k xs e v)

  stays_from : (edge k : ℕ) (v : M) (p : ℕ × M) → edge ≤ p.0 → edge ≤ (cond (p.0 == k) (k, v) p).0
  stays_from edge k v p h = grind (arith, nat_tests)

  pub from_replaced : (edge k : ℕ) (v : M) (ys : List (ℕ × M)) → AreFrom edge ys → AreFrom edge (replaced k v ys)
  from_replaced edge k v ys h =
      All-map (λ p. edge ≤ p.0) (λ p. cond (p.0 == k) (k, v) p) ys
      (All-weaker (λ p. edge ≤ p.0) (λ p. edge ≤ (cond (p.0 == k) (k, v) p).0) (λ p b. stays_from edge k v p b) ys h)

  pub without_near : (k : ℕ) (xs ys : List (ℕ × M)) → has_key k xs ≡ false → without k (xs ++ ys) ≡ xs ++ without k ys
  without_near k xs ys e = filter-append (λ p. not (p.0 == k)) xs ys ∙ ap (λ l. l ++ without k ys) (without-absent k xs e)

  pub from_without : (edge k : ℕ) (ys : List (ℕ × M)) → AreFrom edge ys → AreFrom edge (without k ys)
  from_without edge k ys h = All-filter (λ p. not (p.0 == k)) (λ p. edge ≤ p.0) ys h

  pub value_near : (k : ℕ) (xs ys : List (ℕ × M)) → has_key k xs ≡ false → value_at k (xs ++ ys) ≡ value_at k ys
  value_near k [] ys e = refl
  value_near k (p ∷ xs) ys e =
      ap (λ c. option_map (λ (q : ℕ × M). q.1) (cond c (Some p) (find (λ q. q.0 == k) (xs ++ ys)))) (left_false (p.0 == k) (has_key k xs) e)
      ∙ value_near k xs ys (right_false (p.0 == k) (has_key k xs) e)

  -- a key that is there has a value
  pub value_there : (k : ℕ) (ys : List (ℕ × M)) → has_key k ys ≡ true → (v : M) × (value_at k ys ≡ Some v)
  value_there k [] h = absurd cc
  value_there k (p ∷ ys) h = by (p.0 == k) h (value_there k ys)
    where
      by : (b : Bool) → (b || has_key k ys) ≡ true → (has_key k ys ≡ true → (v : M) × (value_at k ys ≡ Some v)) → (v : M) × (option_map (λ (q : ℕ × M). q.1) (cond b (Some p) (find (λ q. q.0 == k) ys)) ≡ Some v)
      by true h later = (p.1, refl)
      by false h later = later h

  -- ---- the first key of a row
  first_is : (k : ℕ) (p : ℕ × M) (zs : List (ℕ × M)) → least_key (p ∷ zs) ≡ Some k → p.0 ≡ k
  first_is k p zs e = cc

  pub edge_to_first : (edge k : ℕ) (ys : List (ℕ × M)) → least_key ys ≡ Some k → AreFrom edge ys → edge ≤ k
  edge_to_first edge k [] e h = absurd cc
  edge_to_first edge k (p ∷ zs) e h = let l : edge ≤ p.0 = h 0 p (omega arith) in omega (arith, first_is k p zs e)

  pub behind_first : (edge k : ℕ) (ys : List (ℕ × M)) → 1 ≤ length ys → ((low : ℕ) → least_key ys ≡ Some low → edge ≤ low + 1) → ((low : ℕ) → least_key ys ≡ Some low → low < k) → edge ≤ k
  behind_first edge k [] l near behind = absurd (omega arith)
  behind_first edge k (p ∷ zs) l near behind = omega (arith, near p.0 refl, behind p.0 refl)

  pub first_is_other : (k low : ℕ) (ys : List (ℕ × M)) → least_key ys ≡ Some low → has_key k ys ≡ false → low ≡ k → ⊥
  first_is_other k low [] e h s = absurd cc
  first_is_other k low (p ∷ zs) e h s = other_key p.0 k (left_false (p.0 == k) (has_key k zs) h) (first_is low p zs e ∙ s)

  pub from_first : (k low : ℕ) (ys : List (ℕ × M)) → AreRising ys → least_key ys ≡ Some low → k ≤ low → AreFrom k ys
  from_first k low [] r e l = absurd cc
  from_first k low (p ∷ zs) r e l =
      let same : p.0 ≡ low = first_is low p zs e in
      All-cons (λ q. k ≤ q.0) p zs (omega arith) (All-weaker (λ q. p.0 < q.0) (λ q. k ≤ q.0) (λ q h. omega arith) zs (rising_above [] zs p r))

  -- ---- the first pair of a row goes into the tree
  above_first : (k : ℕ) (p : ℕ × M) (zs : List (ℕ × M)) → AreRising (p ∷ zs) → p.0 ≡ k → AreFrom (k + 1) zs
  above_first k p zs r same = All-weaker (λ q. p.0 < q.0) (λ q. k + 1 ≤ q.0) (λ q l. omega arith) zs (rising_above [] zs p r)

  rest_is : (k : ℕ) (p : ℕ × M) (zs : List (ℕ × M)) → AreRising (p ∷ zs) → p.0 ≡ k → without k (p ∷ zs) ≡ zs
  rest_is k p zs r same =
      (λ i. without k ((same i, p.1) ∷ zs))
      ∙ without-middle k [] zs (All-nil (λ q. q.0 < k)) (All-weaker (λ q. k + 1 ≤ q.0) (λ q. k < q.0) (λ q l. omega arith) zs (above_first k p zs r same)) p.1

  value_is : (k : ℕ) (p : ℕ × M) (zs : List (ℕ × M)) → AreRising (p ∷ zs) → p.0 ≡ k → value_at k (p ∷ zs) ≡ Some p.1
  value_is k p zs r same =
      (λ i. value_at k ((same i, p.1) ∷ zs))
      ∙ value_at-middle k [] zs (All-nil (λ q. q.0 < k)) (All-weaker (λ q. k + 1 ≤ q.0) (λ q. k < q.0) (λ q l. omega arith) zs (above_first k p zs r same)) p.1

  pub last_inserted : (edge k : ℕ) (v : M) (xs : List (ℕ × M)) → edge ≤ k → AreBelow edge xs → inserted k v xs ≡ xs ++ (k, v) ∷ []
  last_inserted edge k v xs l h = ap (inserted k v) (sym (append-nil xs)) ∙ inserted-parts k xs [] (weaker_below edge k xs l h) v (All-nil (λ p. k ≤ p.0))

  pub moved : (k : ℕ) (v : M) (xs ys : List (ℕ × M)) → AreRising ys → least_key ys ≡ Some k → ((b : M) → value_at k ys ≡ Some b → v ≡ b) → (xs ++ (k, v) ∷ []) ++ without k ys ≡ xs ++ ys
  moved k v xs [] r e is = absurd cc
  moved k v xs (p ∷ zs) r e is =
      let same : p.0 ≡ k = first_is k p zs e in
      let own : v ≡ p.1 = is p.1 (value_is k p zs r same) in
      let rest : without k (p ∷ zs) ≡ zs = rest_is k p zs r same in
      append_assoc xs ((k, v) ∷ []) (without k (p ∷ zs)) ∙ (λ i. xs ++ (sym same i, own i) ∷ rest i)

  pub moved_length : (k : ℕ) (ys : List (ℕ × M)) → AreRising ys → least_key ys ≡ Some k → length (without k ys) + 1 ≡ length ys
  moved_length k [] r e = absurd cc
  moved_length k (p ∷ zs) r e = omega (arith, ap length (rest_is k p zs r (first_is k p zs e)))

  pub moved_from : (k : ℕ) (ys : List (ℕ × M)) → AreRising ys → least_key ys ≡ Some k → AreFrom (k + 1) (without k ys)
  moved_from k [] r e = absurd cc
  moved_from k (p ∷ zs) r e =
      let same : p.0 ≡ k = first_is k p zs e in
      subst (AreFrom (k + 1)) (sym (rest_is k p zs r same)) (above_first k p zs r same)

  pub moved_below : (edge k : ℕ) (v : M) (xs : List (ℕ × M)) → edge ≤ k → AreBelow edge xs → AreBelow (k + 1) (xs ++ (k, v) ∷ [])
  moved_below edge k v xs l h =
      All-append (λ p. p.0 < k + 1) xs ((k, v) ∷ []) (weaker_below edge (k + 1) xs (omega arith) h) (All-cons (λ p. p.0 < k + 1) (k, v) [] (omega arith) (All-nil (λ p. p.0 < k + 1)))

  -- ---- a range
  pub none_behind : (edge low high : ℕ) (xs : List (ℕ × M)) → edge ≤ low → AreBelow edge xs → within low high xs ≡ []
  none_behind edge low high xs l h =
      filter_none (λ p. nat_le low p.0 && nat_lt p.0 high) xs
      (All-weaker (λ p. p.0 < edge) (λ p. (nat_le low p.0 && nat_lt p.0 high) ≡ false) (λ p b. outside p.0 low high (omega arith)) xs h)

  pub none_before : (edge low high : ℕ) (ys : List (ℕ × M)) → high ≤ edge → AreFrom edge ys → within low high ys ≡ []
  none_before edge low high ys l h =
      filter_none (λ p. nat_le low p.0 && nat_lt p.0 high) ys
      (All-weaker (λ p. edge ≤ p.0) (λ p. (nat_le low p.0 && nat_lt p.0 high) ≡ false) (λ p b. beyond p.0 low high (omega arith)) ys h)

-- the reach of a tree, or of a row beside it, bounded by the pairs of both
pub reach_over : {M : Type 0} (bounded : ℕ → ℕ → Type 0) (inside near : List (ℕ × M)) (reach : ℕ) → bounded reach (length inside) → length near ≤ 256 → IsReachOver bounded (length (inside ++ near)) (max reach (row_reach (length near)))
reach_over bounded inside near reach b few = record {
  of_tree = reach;
  pairs = length inside;
  few = omega (arith, length-append inside near);
  tree = b;
  of_row = row_reach (length near);
  row = omega (arith, length-append inside near, row_bounded (length near) few);
  is = refl;
}

-- ---- how many partials lie behind one, and what that costs
module _ {M : Type 0} where
  -- where so many stand in the row, all that has fewer behind it stands there
  pub full_row : (edge time : ℕ) (xs ys : List (ℕ × M)) → AreFrom edge ys → 256 ≤ length ys → distance time (xs ++ ys) < 256 → edge ≤ time
  full_row edge time xs ys from many few = by (cases_of (nat_lt time edge))
    where
      by : (nat_lt time edge ≡ true) ⊎ (nat_lt time edge ≡ false) → edge ≤ time
      by (inl before) =
          let l : time < edge = grind (arith, nat_tests) in
          absurd (omega (arith, distance-end time xs ys (All-weaker (λ p. edge ≤ p.0) (λ p. time < p.0) (λ p h. omega arith) ys from)))
      by (inr behind) = grind (arith, nat_tests)

module _ (Near : ℕ → ℕ → Type 0) where
  -- a change of a tree with so many steps before it
  pub near_in_tree : (behind reach more looked looks begun made makes : ℕ) → WorksNear Near behind reach looked looks made makes → made ≤ begun + more → SpendsNear Near behind reach more begun makes
  near_in_tree behind reach more looked looks begun made makes w before = record {
    levels = w.levels;
    pairs = behind;
    fewer = omega arith;
    near = λ _. w.near;
    within = w.within;
    cost = omega (arith, w.work.cost, before);
  }

  -- and with a row behind the tree
  pub near_before_row : {M : Type 0} (low : ℕ) (xs ys : List (ℕ × M)) (reach row more made makes : ℕ) → SpendsNear Near (distance low xs) reach more made makes → SpendsNear Near (distance low (xs ++ ys)) (max reach row) more made makes
  near_before_row low xs ys reach row more made makes s = record {
    levels = s.levels;
    pairs = s.pairs;
    fewer = omega (arith, s.fewer, distance-append low xs ys);
    near = s.near;
    within = omega (arith, s.within);
    cost = s.cost;
  }

  -- a change of the row takes no level
  pub near_in_row : (behind reach more made makes : ℕ) → makes ≤ made + more → SpendsNear Near behind reach more made makes
  near_in_row behind reach more made makes cost = record {
    levels = 0;
    pairs = 0;
    fewer = omega arith;
    near = λ some. absurd (omega arith);
    within = omega arith;
    cost = omega arith;
  }
