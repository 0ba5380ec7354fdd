-- Places in a sorted vector of pairs.
use Rattle.std.proofs.Common.{◌≡◌, ◌<◌, ◌≤◌, ◌+◌, ◌-◌, ℕ, zero, Bool, true, false, cond, ◌&&◌, List, [], ◌∷◌, ◌++◌, Some, length, get_or, take, drop, set, suc, sym, ap, subst, refl, ◌∙◌, arith, ⊎_elim, drop-cons}
use Rattle.std.specs.Prelude.{nat_lt, nat_le, filter}
use Rattle.std.specs.List.{All, AllWithin, remove}
use Rattle.std.specs.List.Sorted.{IsPartitionPoint, IsNonDecreasingBy}
use Rattle.std.proofs.Math.Seq.{take-length}
use Rattle.std.proofs.lemmas.List.Kept.{AllPairs-filter}
use Rattle.std.proofs.Math.Nat.{eq-or-lt_of_le}
use Rattle.std.proofs.lemmas.Bool.Decides.{nat_tests}
use Rattle.std.proofs.lemmas.List.{get_or-take, get_or-drop, length-take, length-drop, take-append-drop}
use Rattle.std.proofs.lemmas.List.Elements.{All-weaker, All-head, All-cons}
use Rattle.std.proofs.lemmas.List.Sums.{length-filter, count_by-le-length}
use Rattle.agg_laws.specs.Pairs.{AreRising, StandsAt, has_key, pairs_below, pairs_from, within, replaced, without, value_at}
use Rattle.agg_laws.proofs.RisingPairs.{pairs_below-parts, pairs_from-parts, rising_below, rising_above, has_key-between, has_key-middle, value_at-middle, without-middle, replaced-middle, all_below, all_from}

-- what holds of each element before a place holds of the front, and what holds from it on, of the rest
module _ {X : Type 0} (P : X → Type 0) (xs : List X) (i : ℕ) where
  All-front : AllWithin P xs 0 i → All P (take i xs)
  All-front h k d l =
      let below : k < i = omega (arith, length-take i xs) in
      subst P (sym (get_or-take i xs k d below)) (h k d (omega arith) below)

  All-rest : AllWithin P xs i (length xs) → All P (drop i xs)
  All-rest h k d l =
      subst P (sym (get_or-drop i xs k d)) (h (i + k) d (omega arith) (omega (arith, length-drop i xs)))

below_from_test : (a b : ℕ) → nat_lt a b ≡ true → a < b
below_from_test a b h = grind (arith, nat_tests)

from_failed_test : (a b : ℕ) → nat_lt a b ≡ false → b ≤ a
from_failed_test a b h = grind (arith, nat_tests)

above_from_other : (a b : ℕ) → b ≤ a → (a ≡ b → ⊥) → b < a
above_from_other a b h other = omega arith

-- where the test of a binary search turns, the list falls into the pairs below the key and those from it on
module _ {M : Type 0} (key : ℕ) (ps : List (ℕ × M)) (at : ℕ) (point : IsPartitionPoint (λ p. nat_lt p.0 key ≡ true) (λ p. nat_lt p.0 key ≡ false) ps at) where
  place_lower : All (λ p. p.0 < key) (take at ps)
  place_lower =
      All-weaker (λ p. nat_lt p.0 key ≡ true) (λ p. p.0 < key) (λ p h. below_from_test p.0 key h) (take at ps) (All-front (λ p. nat_lt p.0 key ≡ true) ps at point.0)

  place_upper : All (λ p. key ≤ p.0) (drop at ps)
  place_upper =
      All-weaker (λ p. nat_lt p.0 key ≡ false) (λ p. key ≤ p.0) (λ p h. from_failed_test p.0 key h) (drop at ps) (All-rest (λ p. nat_lt p.0 key ≡ false) ps at point.1)

  pub place_before : take at ps ≡ pairs_below key ps
  place_before =
      sym (pairs_below-parts key (take at ps) (drop at ps) place_lower place_upper) ∙ ap (pairs_below key) (take-append-drop at ps)

  pub place_behind : drop at ps ≡ pairs_from key ps
  place_behind =
      sym (pairs_from-parts key (take at ps) (drop at ps) place_lower place_upper) ∙ ap (pairs_from key) (take-append-drop at ps)

-- rising keys don't fall
pub keys_never_fall : {M : Type 0} (ps : List (ℕ × M)) → AreRising ps → IsNonDecreasingBy (λ p. p.0) ps
keys_never_fall ps h i j d l k =
    ⊎_elim (λ e. omega (arith, ap (λ n. (get_or ps n d).0) e)) (λ lt. omega (arith, h i j d lt k)) (eq-or-lt_of_le l)

-- an element that is read whatever stands for one past the end
pub read_at : {X : Type 0} (xs : List X) (i : ℕ) (d : X) → i < length xs → get_or xs i d ≡ get_or xs i (get_or xs i d)
read_at [] i d l = absurd (omega arith)
read_at (x ∷ xs) zero d l = refl
read_at (x ∷ xs) (suc i) d l = read_at xs i d (omega arith)

-- a list falls apart at one of its elements
pub split_at_read : {X : Type 0} (xs : List X) (i : ℕ) (x : X) → i < length xs → x ≡ get_or xs i x → xs ≡ take i xs ++ x ∷ drop (suc i) xs
split_at_read xs i x l e =
    sym (take-append-drop i xs) ∙ ap (λ rest. take i xs ++ rest) (drop-cons xs i x l ∙ ap (λ y. y ∷ drop (suc i) xs) (sym e))

-- a written element between what stands before it and behind it
pub split_at_written : {X : Type 0} (xs : List X) (i : ℕ) (x : X) → i < length xs → set xs i x ≡ take i xs ++ x ∷ drop (suc i) xs
split_at_written [] i x l = absurd (omega arith)
split_at_written (y ∷ xs) zero x l = refl
split_at_written (y ∷ xs) (suc i) x l = ap (λ rest. y ∷ rest) (split_at_written xs i x (omega arith))

-- the pair with the key, around which the list falls apart
module _ {M : Type 0} (key at : ℕ) (ps : List (ℕ × M)) (p : ℕ × M) (rising : AreRising ps) (stands : StandsAt key at ps) (read : p ≡ get_or ps at p) where
  same : p.0 ≡ key
  same = ap (λ q. q.0) read ∙ stands.key p

  parts : ps ≡ take at ps ++ (key, p.1) ∷ drop (suc at) ps
  parts = split_at_read ps at p stands.within read ∙ ap (λ k. take at ps ++ (k, p.1) ∷ drop (suc at) ps) same

  parts_rise : AreRising (take at ps ++ (key, p.1) ∷ drop (suc at) ps)
  parts_rise = subst AreRising parts rising

  lower : All (λ q. q.0 < key) (take at ps)
  lower = rising_below (take at ps) (drop (suc at) ps) (key, p.1) parts_rise

  upper : All (λ q. key < q.0) (drop (suc at) ps)
  upper = rising_above (take at ps) (drop (suc at) ps) (key, p.1) parts_rise

  pub found_key : has_key key ps ≡ true
  found_key = ap (has_key key) parts ∙ has_key-middle key (take at ps) (drop (suc at) ps) lower upper p.1

  pub found_value : value_at key ps ≡ Some p.1
  found_value = ap (value_at key) parts ∙ value_at-middle key (take at ps) (drop (suc at) ps) lower upper p.1

  pub found_without : without key ps ≡ remove ps at
  found_without = ap (without key) parts ∙ without-middle key (take at ps) (drop (suc at) ps) lower upper p.1

  pub found_replaced : (value : M) → replaced key value ps ≡ set ps at (key, value)
  found_replaced value =
      ap (replaced key value) parts ∙ replaced-middle key (take at ps) (drop (suc at) ps) lower upper p.1 value ∙ sym (split_at_written ps at (key, value) stands.within)

-- one pair more of a nested filter
nested_step : {X : Type 0} (a b : Bool) (x : X) (test : X → Bool) → test x ≡ a → (xs ys : List X) → filter test xs ≡ ys → filter test (cond b (x ∷ xs) xs) ≡ cond (a && b) (x ∷ ys) ys
nested_step true true x test e xs ys h = ap (λ c. cond c (x ∷ filter test xs) (filter test xs)) e ∙ ap (λ l. x ∷ l) h
nested_step false true x test e xs ys h = ap (λ c. cond c (x ∷ filter test xs) (filter test xs)) e ∙ h
nested_step true false x test e xs ys h = h
nested_step false false x test e xs ys h = h

-- a range, taken from the pairs below its end
pub within-nested : {M : Type 0} (low high : ℕ) (ps : List (ℕ × M)) → pairs_from low (pairs_below high ps) ≡ within low high ps
within-nested low high [] = refl
within-nested low high (p ∷ ps) =
    nested_step (nat_le low p.0) (nat_lt p.0 high) p (λ q. nat_le low q.0) refl (pairs_below high ps) (within low high ps) (within-nested low high ps)

-- a place from which on no pair has the key
module _ {M : Type 0} (key at : ℕ) (ps : List (ℕ × M)) (rising : AreRising ps) (before : take at ps ≡ pairs_below key ps) (behind : drop at ps ≡ pairs_from key ps) where
  lower_part : All (λ p. p.0 < key) (take at ps)
  lower_part = subst (λ l. All (λ p. p.0 < key) l) (sym before) (all_below key ps)

  absent_from : All (λ p. key < p.0) (drop at ps) → has_key key ps ≡ false
  absent_from upper =
      ap (has_key key) (sym (take-append-drop at ps)) ∙ has_key-between key (take at ps) (drop at ps) lower_part upper

  -- behind all pairs
  pub absent_at_end : length ps ≤ at → has_key key ps ≡ false
  absent_at_end h = absent_from (λ k d l. absurd (omega (arith, length-drop at ps)))

  -- at a pair with another key
  pub absent_at_other : (p : ℕ × M) → at < length ps → p ≡ get_or ps at p → (p.0 ≡ key → ⊥) → has_key key ps ≡ false
  absent_at_other p inside read other =
      let rest : drop at ps ≡ p ∷ drop (suc at) ps = drop-cons ps at p inside ∙ ap (λ q. q ∷ drop (suc at) ps) (sym read) in
      let from_key : All (λ q. key ≤ q.0) (p ∷ drop (suc at) ps) = subst (λ l. All (λ q. key ≤ q.0) l) (sym behind ∙ rest) (all_from key ps) in
      let first : key < p.0 = above_from_other p.0 key (All-head (λ q. key ≤ q.0) p (drop (suc at) ps) from_key) other in
      let higher : All (λ q. p.0 < q.0) (drop (suc at) ps) = rising_above (take at ps) (drop (suc at) ps) p (subst AreRising (split_at_read ps at p inside read) rising) in
      let upper : All (λ q. key < q.0) (p ∷ drop (suc at) ps) = All-cons (λ q. key < q.0) p (drop (suc at) ps) first (All-weaker (λ q. p.0 < q.0) (λ q. key < q.0) (λ q h. omega arith) (drop (suc at) ps) higher) in
      absent_from (subst (λ l. All (λ q. key < q.0) l) (sym rest) upper)

-- a range is at most all pairs
pub length-within : {M : Type 0} (low high : ℕ) (ps : List (ℕ × M)) → length (within low high ps) ≤ length ps
length-within low high ps =
    omega (arith, length-filter (λ p. nat_le low p.0 && nat_lt p.0 high) ps, count_by-le-length (λ p. nat_le low p.0 && nat_lt p.0 high) ps)

-- the pairs below a key rise
pub rising-pairs_below : {M : Type 0} (key : ℕ) (ps : List (ℕ × M)) → AreRising ps → AreRising (pairs_below key ps)
rising-pairs_below key ps h = AllPairs-filter (λ p q. p.0 < q.0) (λ p. nat_lt p.0 key) ps h

-- a part up to the end
pub part_to_end : {X : Type 0} (xs : List X) (n : ℕ) → take (length xs - n) (drop n xs) ≡ drop n xs
part_to_end xs n = ap (λ k. take k (drop n xs)) (sym (length-drop n xs)) ∙ take-length (drop n xs)
