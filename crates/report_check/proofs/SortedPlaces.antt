-- A list that is sorted by keys, with one element more in its place, as a walk over it finds the place.
use Rattle.std.proofs.Common.{◌≡◌, ◌∙◌, ℕ, ◌+◌, ◌<◌, ◌≤◌, List, [], ◌∷◌, ◌++◌, length, get_or, take, drop, ap, sym, append_assoc, Ordering}
use Rattle.std.specs.Prelude.{insert}
use Rattle.std.specs.declared.cmp.Ordering.TheVariants.{Less, Equal, Greater}
use Rattle.std.specs.Ordering.{match_ordering}
use Rattle.std.specs.BTreeSet.{insert_key}
use Rattle.std.proofs.lemmas.List.{drop_more, take_more, drop_all, take_all, take-append-drop}

module _ {K : Type 0} (cmp : K → K → Ordering) (xs : List K) (k : K) where
  opened : (i : ℕ) (d : K) → i < length xs → (o : Ordering) → cmp k (get_or xs i d) ≡ o
      → insert_key cmp (drop i xs) k ≡ match_ordering o (k ∷ drop i xs) (drop i xs) (get_or xs i d ∷ insert_key cmp (drop (i + 1) xs) k)
  opened i d h o e =
      ap (λ ys. insert_key cmp ys k) (drop_more xs i d h)
      ∙ ap (λ o. match_ordering o (k ∷ get_or xs i d ∷ drop (i + 1) xs) (get_or xs i d ∷ drop (i + 1) xs) (get_or xs i d ∷ insert_key cmp (drop (i + 1) xs) k)) e
      ∙ ap (λ ys. match_ordering o (k ∷ ys) ys (get_or xs i d ∷ insert_key cmp (drop (i + 1) xs) k)) (sym (drop_more xs i d h))

  -- it goes in at a place where it is less
  pub goes_in : (i : ℕ) (d : K) → i < length xs → take i xs ++ insert_key cmp (drop i xs) k ≡ insert_key cmp xs k → cmp k (get_or xs i d) ≡ Less → insert xs i k ≡ insert_key cmp xs k
  goes_in i d h all e = sym (ap (λ ys. take i xs ++ ys) (opened i d h Less e)) ∙ all

  -- it is there already where it is equal
  pub is_there : (i : ℕ) (d : K) → i < length xs → take i xs ++ insert_key cmp (drop i xs) k ≡ insert_key cmp xs k → cmp k (get_or xs i d) ≡ Equal → xs ≡ insert_key cmp xs k
  is_there i d h all e = sym (take-append-drop i xs) ∙ sym (ap (λ ys. take i xs ++ ys) (opened i d h Equal e)) ∙ all

  -- it goes in further on where it is greater
  pub goes_on : (i : ℕ) (d : K) → i < length xs → take i xs ++ insert_key cmp (drop i xs) k ≡ insert_key cmp xs k → cmp k (get_or xs i d) ≡ Greater → take (i + 1) xs ++ insert_key cmp (drop (i + 1) xs) k ≡ insert_key cmp xs k
  goes_on i d h all e =
      ap (λ ys. ys ++ insert_key cmp (drop (i + 1) xs) k) (take_more xs i d h)
      ∙ append_assoc (take i xs) (get_or xs i d ∷ []) (insert_key cmp (drop (i + 1) xs) k)
      ∙ sym (ap (λ ys. take i xs ++ ys) (opened i d h Greater e))
      ∙ all

  -- it goes in at the end where it is greater than all
  pub goes_last : (i : ℕ) → length xs ≤ i → take i xs ++ insert_key cmp (drop i xs) k ≡ insert_key cmp xs k → xs ++ k ∷ [] ≡ insert_key cmp xs k
  goes_last i h all = sym (ap (λ ys. ys ++ insert_key cmp (drop i xs) k) (take_all i xs h) ∙ ap (λ ys. xs ++ insert_key cmp ys k) (drop_all i xs h)) ∙ all
