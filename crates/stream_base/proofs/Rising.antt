-- Members of lists, and lists that rise strictly: `rising` gives one with the same members, and two with the same members are equal.
use Rattle.std.proofs.Common.{◌≡◌, ◌∙◌, ℕ, zero, suc, ◌<◌, List, [], ◌∷◌, ◌++◌, length, get_or, fold, ap, sym, refl, subst, inl, inr, ⊎_elim, arith, Ordering}
use Rattle.std.specs.Prelude.{◌⊎◌, ◌↔◌}
use Rattle.std.specs.declared.cmp.Ordering.TheVariants.{Less, Equal, Greater}
use Rattle.std.specs.Cmp.{IsTotalOrder}
use Rattle.std.specs.List.{All, Contains}
use Rattle.std.specs.List.Sorted.{IsStrictlySortedBy, IsStrictlyIncreasing}
use Rattle.std.specs.Ordering.{match_ordering, nat_cmp, ordering_reverse}
use Rattle.std.specs.BTreeSet.{insert_key}
use Rattle.std.specs.Cmp.Lexicographic.{slice_cmp}
use Rattle.std.proofs.lemmas.Cmp.{nat_cmp_total, nat_list_cmp_total, tied_itself}
use Rattle.std.proofs.lemmas.List.Elements.{All-from_recursion, recursion_from_All, All-cons, All-contains, All-weaker, All-nil}
use Rattle.std.proofs.lemmas.Map.Keys.{sorted_head, sorted_tail, IsStrictlyIncreasing-from_sorted}
use Rattle.std.proofs.lemmas.Map.Lookups.{CmpEqualImpliesEq, exact_unsigned, exact_bytes}
use Rattle.std.proofs.lemmas.Map.Views.{All-insert_key}
use Rattle.stream_base.specs.Model.Journal.{rising}

module _ {X : Type 0} where
  pub none_in_nil : (x : X) → Contains [] x → ⊥
  none_in_nil x c = omega (arith, c.1)

  pub Contains-head : (x : X) (xs : List X) → Contains (x ∷ xs) x
  Contains-head x xs = (zero, omega arith, refl)

  pub Contains-at_head : (y : X) (xs : List X) (x : X) → y ≡ x → Contains (y ∷ xs) x
  Contains-at_head y xs x e = (zero, omega arith, e)

  pub Contains-tail : (y : X) (xs : List X) (x : X) → Contains xs x → Contains (y ∷ xs) x
  Contains-tail y xs x c = (suc c.0, omega (arith, c.1), c.2)

  pub Contains-cons_cases : (y : X) (xs : List X) (x : X) → Contains (y ∷ xs) x → (y ≡ x) ⊎ Contains xs x
  Contains-cons_cases y xs x c = at c.0 c.1 c.2
    where
      at : (k : ℕ) → k < length (y ∷ xs) → get_or (y ∷ xs) k x ≡ x → (y ≡ x) ⊎ Contains xs x
      at zero h e = inl e
      at (suc k) h e = inr (k, omega arith, e)

module _ {K : Type 0} (cmp : K → K → Ordering) where
  -- what was in the list is in it still
  pub Contains-insert_key : (k : K) (ks : List K) (x : K) → Contains ks x → Contains (insert_key cmp ks k) x
  Contains-insert_key k [] x c = absurd (none_in_nil x c)
  Contains-insert_key k (y ∷ ys) x c = by (cmp k y) (Contains-insert_key k ys x)
    where
      by : (r : Ordering) → (Contains ys x → Contains (insert_key cmp ys k) x) → Contains (match_ordering r (k ∷ y ∷ ys) (y ∷ ys) (y ∷ insert_key cmp ys k)) x
      by Less later = Contains-tail k (y ∷ ys) x c
      by Equal later = c
      by Greater later = ⊎_elim (λ e. Contains-at_head y (insert_key cmp ys k) x e) (λ d. Contains-tail y (insert_key cmp ys k) x (later d)) (Contains-cons_cases y ys x c)

  -- the key that is put in is in it
  pub Contains-insert_key_self : CmpEqualImpliesEq cmp → (k : K) (ks : List K) → Contains (insert_key cmp ks k) k
  Contains-insert_key_self same k [] = Contains-head k []
  Contains-insert_key_self same k (y ∷ ys) = by (cmp k y) refl (Contains-insert_key_self same k ys)
    where
      by : (r : Ordering) → cmp k y ≡ r → Contains (insert_key cmp ys k) k → Contains (match_ordering r (k ∷ y ∷ ys) (y ∷ ys) (y ∷ insert_key cmp ys k)) k
      by Less e later = Contains-head k (y ∷ ys)
      by Equal e later = rw (same k y e) (Contains-head y ys)
      by Greater e later = Contains-tail y (insert_key cmp ys k) k later

  -- nothing else is in it
  pub Contains-insert_key_cases : (k : K) (ks : List K) (x : K) → Contains (insert_key cmp ks k) x → (k ≡ x) ⊎ Contains ks x
  Contains-insert_key_cases k [] x c = Contains-cons_cases k [] x c
  Contains-insert_key_cases k (y ∷ ys) x c = by (cmp k y) (Contains-insert_key_cases k ys x) c
    where
      by : (r : Ordering) → (Contains (insert_key cmp ys k) x → (k ≡ x) ⊎ Contains ys x) → Contains (match_ordering r (k ∷ y ∷ ys) (y ∷ ys) (y ∷ insert_key cmp ys k)) x → (k ≡ x) ⊎ Contains (y ∷ ys) x
      by Less later d = Contains-cons_cases k (y ∷ ys) x d
      by Equal later d = inr d
      by Greater later d = ⊎_elim (λ e. inr (Contains-at_head y ys x e)) (λ f. ⊎_elim (λ e. inl e) (λ g. inr (Contains-tail y ys x g)) (later f)) (Contains-cons_cases y (insert_key cmp ys k) x d)

  folded_cases : (xs ks : List K) (x : K) → Contains (fold (insert_key cmp) ks xs) x → Contains ks x ⊎ Contains xs x
  folded_cases [] ks x c = inl c
  folded_cases (y ∷ ys) ks x c =
      ⊎_elim
      (λ d. ⊎_elim (λ e. inr (Contains-at_head y ys x e)) (λ f. inl f) (Contains-insert_key_cases y ks x d))
      (λ d. inr (Contains-tail y ys x d))
      (folded_cases ys (insert_key cmp ks y) x c)

  folded_stays : (xs ks : List K) (x : K) → Contains ks x → Contains (fold (insert_key cmp) ks xs) x
  folded_stays [] ks x c = c
  folded_stays (y ∷ ys) ks x c = folded_stays ys (insert_key cmp ks y) x (Contains-insert_key y ks x c)

  folded_puts : CmpEqualImpliesEq cmp → (xs ks : List K) (x : K) → Contains xs x → Contains (fold (insert_key cmp) ks xs) x
  folded_puts same [] ks x c = absurd (none_in_nil x c)
  folded_puts same (y ∷ ys) ks x c =
      ⊎_elim
      (λ e. folded_stays ys (insert_key cmp ks y) x (rw (← e) (Contains-insert_key_self same y ks)))
      (λ d. folded_puts same ys (insert_key cmp ks y) x d)
      (Contains-cons_cases y ys x c)

  -- the members of `rising` are those of the list
  pub Contains-from_rising : (xs : List K) (x : K) → Contains (rising cmp xs) x → Contains xs x
  Contains-from_rising xs x c = ⊎_elim (λ d. absurd (none_in_nil x d)) (λ d. d) (folded_cases xs [] x c)

  pub Contains-rising : CmpEqualImpliesEq cmp → (xs : List K) (x : K) → Contains xs x → Contains (rising cmp xs) x
  Contains-rising same xs x c = folded_puts same xs [] x c

  fold_push : (xs ks : List K) (x : K) → fold (insert_key cmp) ks (xs ++ x ∷ []) ≡ insert_key cmp (fold (insert_key cmp) ks xs) x
  fold_push [] ks x = refl
  fold_push (y ∷ ys) ks x = fold_push ys (insert_key cmp ks y) x

  -- one more element behind the list is put at its place
  pub rising_push : (xs : List K) (x : K) → rising cmp (xs ++ x ∷ []) ≡ insert_key cmp (rising cmp xs) x
  rising_push xs x = fold_push xs [] x

module _ {K : Type 0} {cmp : K → K → Ordering} (o : IsTotalOrder cmp) where
  flipped : (x y : K) → cmp x y ≡ Greater → cmp y x ≡ Less
  flipped x y e = o.antisymm y x ∙ ap ordering_reverse e

  pub not_below_itself : (x : K) → cmp x x ≡ Less → ⊥
  not_below_itself x e = let t : cmp x x ≡ Equal = tied_itself o x in cc

  not_both : (x y : K) → cmp x y ≡ Less → cmp y x ≡ Less → ⊥
  not_both x y e f = not_below_itself x (o.trans x y x e f)

  pub below_tail : (x : K) (xs : List K) → IsStrictlySortedBy cmp (x ∷ xs) → (y : K) → Contains xs y → cmp x y ≡ Less
  below_tail x xs s y c = All-contains (λ z. cmp x z ≡ Less) xs y (All-from_recursion (λ z. cmp x z ≡ Less) xs (sorted_head cmp x xs s)) c

  pub sorted_cons : (x : K) (xs : List K) → All (λ y. cmp x y ≡ Less) xs → IsStrictlySortedBy cmp xs → IsStrictlySortedBy cmp (x ∷ xs)
  unfolding IsStrictlySortedBy
  sorted_cons x xs a s = (recursion_from_All (λ y. cmp x y ≡ Less) xs a, s)

  pub sorted_nil : IsStrictlySortedBy cmp []
  unfolding IsStrictlySortedBy
  sorted_nil = tt

  pub sorted_insert_key : (k : K) (ks : List K) → IsStrictlySortedBy cmp ks → IsStrictlySortedBy cmp (insert_key cmp ks k)
  sorted_insert_key k [] s = sorted_cons k [] (All-nil (λ y. cmp k y ≡ Less)) s
  sorted_insert_key k (x ∷ xs) s = by (cmp k x) refl (sorted_insert_key k xs (sorted_tail cmp x xs s))
    where
      above : All (λ y. cmp x y ≡ Less) xs
      above = All-from_recursion (λ z. cmp x z ≡ Less) xs (sorted_head cmp x xs s)

      by : (r : Ordering) → cmp k x ≡ r → IsStrictlySortedBy cmp (insert_key cmp xs k) → IsStrictlySortedBy cmp (match_ordering r (k ∷ x ∷ xs) (x ∷ xs) (x ∷ insert_key cmp xs k))
      by Less e later = sorted_cons k (x ∷ xs) (All-cons (λ y. cmp k y ≡ Less) x xs e (All-weaker (λ y. cmp x y ≡ Less) (λ y. cmp k y ≡ Less) (λ y f. o.trans k x y e f) xs above)) s
      by Equal e later = s
      by Greater e later = sorted_cons x (insert_key cmp xs k) (All-insert_key cmp k (λ y. cmp x y ≡ Less) xs above (flipped k x e)) later

  folded_sorted : (xs ks : List K) → IsStrictlySortedBy cmp ks → IsStrictlySortedBy cmp (fold (insert_key cmp) ks xs)
  folded_sorted [] ks s = s
  folded_sorted (x ∷ xs) ks s = folded_sorted xs (insert_key cmp ks x) (sorted_insert_key x ks s)

  pub rising_is_sorted : (xs : List K) → IsStrictlySortedBy cmp (rising cmp xs)
  rising_is_sorted xs = folded_sorted xs [] sorted_nil

  same_head : (x y : K) (xs ys : List K) → IsStrictlySortedBy cmp (x ∷ xs) → IsStrictlySortedBy cmp (y ∷ ys) → Contains (y ∷ ys) x → Contains (x ∷ xs) y → x ≡ y
  same_head x y xs ys s t c d =
      ⊎_elim
      (λ e. sym e)
      (λ f. ⊎_elim (λ e. e) (λ g. absurd (not_both x y (below_tail x xs s y g) (below_tail y ys t x f))) (Contains-cons_cases x xs y d))
      (Contains-cons_cases y ys x c)

  later_members : (x y : K) (xs ys : List K) → IsStrictlySortedBy cmp (x ∷ xs) → x ≡ y → ((z : K) → Contains (x ∷ xs) z → Contains (y ∷ ys) z) → (z : K) → Contains xs z → Contains ys z
  later_members x y xs ys s e sub z c =
      ⊎_elim
      (λ f. absurd (not_below_itself x (subst (λ w. cmp x w ≡ Less) (sym (e ∙ f)) (below_tail x xs s z c))))
      (λ d. d)
      (Contains-cons_cases y ys z (sub z (Contains-tail x xs z c)))

  -- two lists that rise strictly and have the same members are equal
  pub same_members_same_list : (xs ys : List K) → IsStrictlySortedBy cmp xs → IsStrictlySortedBy cmp ys → ((x : K) → Contains xs x → Contains ys x) → ((x : K) → Contains ys x → Contains xs x) → xs ≡ ys
  same_members_same_list [] [] s t sub sup = refl
  same_members_same_list [] (y ∷ ys) s t sub sup = absurd (none_in_nil y (sup y (Contains-head y ys)))
  same_members_same_list (x ∷ xs) [] s t sub sup = absurd (none_in_nil x (sub x (Contains-head x xs)))
  same_members_same_list (x ∷ xs) (y ∷ ys) s t sub sup =
      let e : x ≡ y = same_head x y xs ys s t (sub x (Contains-head x xs)) (sup y (Contains-head y ys)) in
      let es : xs ≡ ys = same_members_same_list xs ys (sorted_tail cmp x xs s) (sorted_tail cmp y ys t) (later_members x y xs ys s e sub) (later_members y x ys xs t (sym e) sup) in
      λ i. e i ∷ es i

-- numbers, and keys by their bytes
pub nat_rising_is_sorted : (xs : List ℕ) → IsStrictlySortedBy nat_cmp (rising nat_cmp xs)
nat_rising_is_sorted xs = rising_is_sorted nat_cmp_total xs

pub nat_rising_increases : (xs : List ℕ) → IsStrictlyIncreasing (rising nat_cmp xs)
nat_rising_increases xs = IsStrictlyIncreasing-from_sorted (rising nat_cmp xs) (nat_rising_is_sorted xs)

pub nat_rising_members : (xs : List ℕ) (x : ℕ) → Contains (rising nat_cmp xs) x ↔ Contains xs x
nat_rising_members xs x = (Contains-from_rising nat_cmp xs x, Contains-rising nat_cmp exact_unsigned xs x)

pub key_rising_is_sorted : (keys : List (List ℕ)) → IsStrictlySortedBy (slice_cmp nat_cmp) (rising (slice_cmp nat_cmp) keys)
key_rising_is_sorted keys = rising_is_sorted nat_list_cmp_total keys

pub key_rising_members : (keys : List (List ℕ)) (key : List ℕ) → Contains (rising (slice_cmp nat_cmp) keys) key ↔ Contains keys key
key_rising_members keys key = (Contains-from_rising (slice_cmp nat_cmp) keys key, Contains-rising (slice_cmp nat_cmp) exact_bytes keys key)
