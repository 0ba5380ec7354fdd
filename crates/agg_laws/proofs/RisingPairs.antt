-- Pairs with rising keys: what an insertion, a removal, another value and a range are where the list is known in parts.
use Rattle.std.proofs.Common.{◌≡◌, ◌<◌, ◌≤◌, ℕ, Bool, true, false, not, cond, ◌||◌, ◌&&◌, List, [], ◌∷◌, ◌++◌, None, Some, map, suc, ap, refl, ◌∙◌, arith}
use Rattle.std.specs.Prelude.{filter, find, nat_lt, nat_le, ◌==◌, AllPairs}
use Rattle.std.specs.List.{All, list_any}
use Rattle.std.specs.Option.{option_map, option_or}
use Rattle.std.proofs.lemmas.Bool.Decides.{nat_tests}
use Rattle.std.proofs.lemmas.List.Elements.{All-head, All-tail, All-weaker, All-append, All-cons, All-nil, All-filter, All-map, filter-append, filter_passes}
use Rattle.std.proofs.lemmas.List.Kept.{AllPairs-cons, AllPairs-filter}
use Rattle.std.proofs.lemmas.List.Folds.{list_any-append, find-append}
use Rattle.std.proofs.lemmas.List.{map-append}
use Rattle.agg_laws.specs.Pairs.{AreRising, has_key, pairs_below, pairs_from, within, inserted, replaced, without, value_at}

-- a test that all pass keeps all, and one that none passes keeps none
filter_all : {X : Type 0} (test : X → Bool) (xs : List X) → All (λ x. test x ≡ true) xs → filter test xs ≡ xs
filter_all test [] h = refl
filter_all test (x ∷ xs) h =
    ap (λ b. cond b (x ∷ filter test xs) (filter test xs)) (All-head (λ x. test x ≡ true) x xs h) ∙ ap (λ rest. x ∷ rest) (filter_all test xs (All-tail (λ x. test x ≡ true) x xs h))

filter_none : {X : Type 0} (test : X → Bool) (xs : List X) → All (λ x. test x ≡ false) xs → filter test xs ≡ []
filter_none test [] h = refl
filter_none test (x ∷ xs) h =
    ap (λ b. cond b (x ∷ filter test xs) (filter test xs)) (All-head (λ x. test x ≡ false) x xs h) ∙ filter_none test xs (All-tail (λ x. test x ≡ false) x xs h)

any_none : {X : Type 0} (test : X → Bool) (xs : List X) → All (λ x. test x ≡ false) xs → list_any test xs ≡ false
any_none test [] h = refl
any_none test (x ∷ xs) h =
    ap (λ b. b || list_any test xs) (All-head (λ x. test x ≡ false) x xs h) ∙ any_none test xs (All-tail (λ x. test x ≡ false) x xs h)

none_of_any : {X : Type 0} (test : X → Bool) (xs : List X) → list_any test xs ≡ false → All (λ x. test x ≡ false) xs
none_of_any test [] h = All-nil (λ x. test x ≡ false)
none_of_any test (x ∷ xs) h = All-cons (λ x. test x ≡ false) x xs (grind arith) (none_of_any test xs (grind arith))

find_none : {X : Type 0} (test : X → Bool) (xs : List X) → All (λ x. test x ≡ false) xs → find test xs ≡ None
find_none test [] h = refl
find_none test (x ∷ xs) h =
    ap (λ b. cond b (Some x) (find test xs)) (All-head (λ x. test x ≡ false) x xs h) ∙ find_none test xs (All-tail (λ x. test x ≡ false) x xs h)

-- the tests of keys
lt_true : (a b : ℕ) → a < b → nat_lt a b ≡ true
lt_true a b h = grind (arith, nat_tests)

lt_false : (a b : ℕ) → b ≤ a → nat_lt a b ≡ false
lt_false a b h = grind (arith, nat_tests)

le_true : (a b : ℕ) → a ≤ b → nat_le a b ≡ true
le_true a b h = grind (arith, nat_tests)

le_false : (a b : ℕ) → b < a → nat_le a b ≡ false
le_false a b h = grind (arith, nat_tests)

from_lt : (a b : ℕ) → nat_lt a b ≡ true → a < b
from_lt a b h = grind (arith, nat_tests)

from_le : (a b : ℕ) → nat_le a b ≡ true → a ≤ b
from_le a b h = grind (arith, nat_tests)

other_below : (a b : ℕ) → a < b → (a == b) ≡ false
other_below a b h = grind (arith, nat_tests)

other_above : (a b : ℕ) → b < a → (a == b) ≡ false
other_above a b h = grind (arith, nat_tests)

same_key : (a : ℕ) → (a == a) ≡ true
same_key a = grind (arith, nat_tests)

above_other : (a b : ℕ) → b ≤ a → (a == b) ≡ false → b < a
above_other a b h e = grind (arith, nat_tests)

in_range : (k low high : ℕ) → low ≤ k → k < high → (nat_le low k && nat_lt k high) ≡ true
in_range k low high h l = grind (arith, nat_tests)

below_range : (k low high : ℕ) → k < low → (nat_le low k && nat_lt k high) ≡ false
below_range k low high h = grind (arith, nat_tests)

above_range : (k low high : ℕ) → high ≤ k → (nat_le low k && nat_lt k high) ≡ false
above_range k low high h = grind (arith, nat_tests)

empty_range : (k low high : ℕ) → high ≤ low → (nat_le low k && nat_lt k high) ≡ false
empty_range k low high h = grind (arith, nat_tests)

append_nil : {X : Type 0} (xs : List X) → xs ++ [] ≡ xs
append_nil [] = refl
append_nil (x ∷ xs) = ap (λ l. x ∷ l) (append_nil xs)

-- another value under a key that isn't there changes nothing
replaced_none : {M : Type 0} (key : ℕ) (value : M) (ps : List (ℕ × M)) → All (λ p. (p.0 == key) ≡ false) ps → replaced key value ps ≡ ps
replaced_none key value [] h = refl
replaced_none key value (p ∷ ps) h =
    ap (λ b. cond b (key, value) p ∷ replaced key value ps) (All-head (λ p. (p.0 == key) ≡ false) p ps h) ∙ ap (λ l. p ∷ l) (replaced_none key value ps (All-tail (λ p. (p.0 == key) ≡ false) p ps h))

module _ {M : Type 0} (key : ℕ) (xs ys : List (ℕ × M)) (lower : All (λ p. p.0 < key) xs) where
  -- where the first part is below the key and the second from it on, these are the two parts
  pub pairs_below-parts : All (λ p. key ≤ p.0) ys → pairs_below key (xs ++ ys) ≡ xs
  pairs_below-parts upper =
      let all : filter (λ p. nat_lt p.0 key) xs ≡ xs = filter_all (λ p. nat_lt p.0 key) xs (All-weaker (λ p. p.0 < key) (λ p. nat_lt p.0 key ≡ true) (λ p h. lt_true p.0 key h) xs lower) in
      let none : filter (λ p. nat_lt p.0 key) ys ≡ [] = filter_none (λ p. nat_lt p.0 key) ys (All-weaker (λ p. key ≤ p.0) (λ p. nat_lt p.0 key ≡ false) (λ p h. lt_false p.0 key h) ys upper) in
      filter-append (λ p. nat_lt p.0 key) xs ys ∙ ap (λ l. l ++ filter (λ p. nat_lt p.0 key) ys) all ∙ ap (λ l. xs ++ l) none ∙ append_nil xs

  pub pairs_from-parts : All (λ p. key ≤ p.0) ys → pairs_from key (xs ++ ys) ≡ ys
  pairs_from-parts upper =
      let none : filter (λ p. nat_le key p.0) xs ≡ [] = filter_none (λ p. nat_le key p.0) xs (All-weaker (λ p. p.0 < key) (λ p. nat_le key p.0 ≡ false) (λ p h. le_false key p.0 h) xs lower) in
      let all : filter (λ p. nat_le key p.0) ys ≡ ys = filter_all (λ p. nat_le key p.0) ys (All-weaker (λ p. key ≤ p.0) (λ p. nat_le key p.0 ≡ true) (λ p h. le_true key p.0 h) ys upper) in
      filter-append (λ p. nat_le key p.0) xs ys ∙ ap (λ l. l ++ filter (λ p. nat_le key p.0) ys) none ∙ all

  -- an insertion between them
  pub inserted-parts : (value : M) → All (λ p. key ≤ p.0) ys → inserted key value (xs ++ ys) ≡ xs ++ (key, value) ∷ ys
  inserted-parts value upper =
      ap (λ l. l ++ (key, value) ∷ pairs_from key (xs ++ ys)) (pairs_below-parts upper) ∙ ap (λ l. xs ++ (key, value) ∷ l) (pairs_from-parts upper)

  others : All (λ p. (p.0 == key) ≡ false) xs
  others = All-weaker (λ p. p.0 < key) (λ p. (p.0 == key) ≡ false) (λ p h. other_below p.0 key h) xs lower

  module _ (upper : All (λ p. key < p.0) ys) where
    others_above : All (λ p. (p.0 == key) ≡ false) ys
    others_above = All-weaker (λ p. key < p.0) (λ p. (p.0 == key) ≡ false) (λ p h. other_above p.0 key h) ys upper

    -- no pair has a key between
    pub has_key-between : has_key key (xs ++ ys) ≡ false
    has_key-between = any_none (λ p. p.0 == key) (xs ++ ys) (All-append (λ p. (p.0 == key) ≡ false) xs ys others others_above)

    -- the pair in the middle has the key
    pub has_key-middle : (value : M) → has_key key (xs ++ (key, value) ∷ ys) ≡ true
    has_key-middle value =
        list_any-append (λ p. p.0 == key) xs ((key, value) ∷ ys) ∙ ap (λ b. b || ((key == key) || list_any (λ p. p.0 == key) ys)) (any_none (λ p. p.0 == key) xs others) ∙ ap (λ b. b || list_any (λ p. p.0 == key) ys) (same_key key)

    pub value_at-middle : (value : M) → value_at key (xs ++ (key, value) ∷ ys) ≡ Some value
    value_at-middle value =
        ap (option_map (λ p. p.1)) (find-append (λ p. p.0 == key) xs ((key, value) ∷ ys) ∙ ap (λ o. option_or o (find (λ p. p.0 == key) ((key, value) ∷ ys))) (find_none (λ p. p.0 == key) xs others) ∙ ap (λ b. cond b (Some (key, value)) (find (λ p. p.0 == key) ys)) (same_key key))

    pub without-middle : (value : M) → without key (xs ++ (key, value) ∷ ys) ≡ xs ++ ys
    without-middle value =
        let kept_before : filter (λ p. not (p.0 == key)) xs ≡ xs = filter_all (λ p. not (p.0 == key)) xs (All-weaker (λ p. (p.0 == key) ≡ false) (λ p. not (p.0 == key) ≡ true) (λ p h. ap not h) xs others) in
        let kept_behind : filter (λ p. not (p.0 == key)) ys ≡ ys = filter_all (λ p. not (p.0 == key)) ys (All-weaker (λ p. (p.0 == key) ≡ false) (λ p. not (p.0 == key) ≡ true) (λ p h. ap not h) ys others_above) in
        let dropped : filter (λ p. not (p.0 == key)) ((key, value) ∷ ys) ≡ filter (λ p. not (p.0 == key)) ys = ap (λ b. cond (not b) ((key, value) ∷ filter (λ p. not (p.0 == key)) ys) (filter (λ p. not (p.0 == key)) ys)) (same_key key) in
        filter-append (λ p. not (p.0 == key)) xs ((key, value) ∷ ys) ∙ ap (λ l. l ++ filter (λ p. not (p.0 == key)) ((key, value) ∷ ys)) kept_before ∙ ap (λ l. xs ++ l) (dropped ∙ kept_behind)

    pub replaced-middle : (value other : M) → replaced key other (xs ++ (key, value) ∷ ys) ≡ xs ++ (key, other) ∷ ys
    replaced-middle value other =
        let change : ℕ × M → ℕ × M = λ p. cond (p.0 == key) (key, other) p in
        map-append change xs ((key, value) ∷ ys) ∙ ap (λ l. l ++ map change ((key, value) ∷ ys)) (replaced_none key other xs others) ∙ ap (λ b. xs ++ cond b (key, other) (key, value) ∷ map change ys) (same_key key) ∙ ap (λ l. xs ++ (key, other) ∷ l) (replaced_none key other ys others_above)

-- what holds where no pair has the key
module _ {M : Type 0} (key : ℕ) (ps : List (ℕ × M)) (absent : has_key key ps ≡ false) where
  pub value_at-absent : value_at key ps ≡ None
  value_at-absent = ap (option_map (λ p. p.1)) (find_none (λ p. p.0 == key) ps (none_of_any (λ p. p.0 == key) ps absent))

  pub without-absent : without key ps ≡ ps
  without-absent =
      filter_all (λ p. not (p.0 == key)) ps (All-weaker (λ p. (p.0 == key) ≡ false) (λ p. not (p.0 == key) ≡ true) (λ p h. ap not h) ps (none_of_any (λ p. p.0 == key) ps absent))

  pub replaced-absent : (value : M) → replaced key value ps ≡ ps
  replaced-absent value = replaced_none key value ps (none_of_any (λ p. p.0 == key) ps absent)

-- a range, where the list is known in three parts: below it, in it and above it
pub within-parts : {M : Type 0} (low high : ℕ) (xs ys zs : List (ℕ × M)) → All (λ p. p.0 < low) xs → All (λ p. (low ≤ p.0) × (p.0 < high)) ys → All (λ p. high ≤ p.0) zs → within low high (xs ++ (ys ++ zs)) ≡ ys
within-parts {M = M} low high xs ys zs lower inside upper =
    let test : ℕ × M → Bool = λ p. nat_le low p.0 && nat_lt p.0 high in
    let none_below : filter test xs ≡ [] = filter_none test xs (All-weaker (λ p. p.0 < low) (λ p. test p ≡ false) (λ p h. below_range p.0 low high h) xs lower) in
    let all_inside : filter test ys ≡ ys = filter_all test ys (All-weaker (λ p. (low ≤ p.0) × (p.0 < high)) (λ p. test p ≡ true) (λ p h. in_range p.0 low high h.0 h.1) ys inside) in
    let none_above : filter test zs ≡ [] = filter_none test zs (All-weaker (λ p. high ≤ p.0) (λ p. test p ≡ false) (λ p h. above_range p.0 low high h) zs upper) in
    filter-append test xs (ys ++ zs) ∙ ap (λ l. l ++ filter test (ys ++ zs)) none_below ∙ filter-append test ys zs ∙ ap (λ l. l ++ filter test zs) all_inside ∙ ap (λ l. ys ++ l) none_above ∙ append_nil ys

-- a range that ends where it begins, or before, holds nothing
pub within-empty : {M : Type 0} (low high : ℕ) (ps : List (ℕ × M)) → high ≤ low → within low high ps ≡ []
within-empty low high [] h = refl
within-empty low high (p ∷ ps) h =
    ap (λ b. cond b (p ∷ within low high ps) (within low high ps)) (empty_range p.0 low high h) ∙ within-empty low high ps h

front_of : {X : Type 0} (P : X → Type 0) (xs ys : List X) → All P (xs ++ ys) → All P xs
front_of P [] ys h = All-nil P
front_of P (x ∷ xs) ys h = All-cons P x xs (All-head P x (xs ++ ys) h) (front_of P xs ys (All-tail P x (xs ++ ys) h))

back_of : {X : Type 0} (P : X → Type 0) (xs ys : List X) → All P (xs ++ ys) → All P ys
back_of P [] ys h = h
back_of P (x ∷ xs) ys h = back_of P xs ys (All-tail P x (xs ++ ys) h)

module _ {X : Type 0} (R : X → X → Type 0) where
  pairs_head : (x : X) (xs : List X) → AllPairs R (x ∷ xs) → All (R x) xs
  pairs_head x xs h k d l = h 0 (suc k) d (omega arith) (omega arith)

  pairs_tail : (x : X) (xs : List X) → AllPairs R (x ∷ xs) → AllPairs R xs
  pairs_tail x xs h i j d l k = h (suc i) (suc j) d (omega arith) (omega arith)

  pairs_append : (xs ys : List X) → AllPairs R xs → AllPairs R ys → All (λ x. All (R x) ys) xs → AllPairs R (xs ++ ys)
  pairs_append [] ys hx hy across = hy
  pairs_append (x ∷ xs) ys hx hy across =
      AllPairs-cons R x (xs ++ ys) (All-append (R x) xs ys (pairs_head x xs hx) (All-head (λ x. All (R x) ys) x xs across)) (pairs_append xs ys (pairs_tail x xs hx) hy (All-tail (λ x. All (R x) ys) x xs across))

  pairs_first : (xs ys : List X) → AllPairs R (xs ++ ys) → AllPairs R xs
  pairs_first [] ys h = λ i j d l k. absurd (omega arith)
  pairs_first (x ∷ xs) ys h =
      AllPairs-cons R x xs (front_of (R x) xs ys (pairs_head x (xs ++ ys) h)) (pairs_first xs ys (pairs_tail x (xs ++ ys) h))

  pairs_second : (xs ys : List X) → AllPairs R (xs ++ ys) → AllPairs R ys
  pairs_second [] ys h = h
  pairs_second (x ∷ xs) ys h = pairs_second xs ys (pairs_tail x (xs ++ ys) h)

  pairs_across : (xs ys : List X) → AllPairs R (xs ++ ys) → All (λ x. All (R x) ys) xs
  pairs_across [] ys h = All-nil (λ x. All (R x) ys)
  pairs_across (x ∷ xs) ys h =
      All-cons (λ x. All (R x) ys) x xs (back_of (R x) xs ys (pairs_head x (xs ++ ys) h)) (pairs_across xs ys (pairs_tail x (xs ++ ys) h))

  pairs_map : {Y : Type 0} (S : Y → Y → Type 0) (f : X → Y) → ((x y : X) → R x y → S (f x) (f y)) → (xs : List X) → AllPairs R xs → AllPairs S (map f xs)
  pairs_map S f keeps [] h = λ i j d l k. absurd (omega arith)
  pairs_map S f keeps (x ∷ xs) h =
      AllPairs-cons S (f x) (map f xs) (All-map (S (f x)) f xs (All-weaker (R x) (λ y. S (f x) (f y)) (λ y r. keeps x y r) xs (pairs_head x xs h))) (pairs_map S f keeps xs (pairs_tail x xs h))

module _ {M : Type 0} where
  -- two rising lists, the first below a key and the second from it on, rise together
  pub rising-parts : (key : ℕ) (xs ys : List (ℕ × M)) → AreRising xs → AreRising ys → All (λ p. p.0 < key) xs → All (λ p. key ≤ p.0) ys → AreRising (xs ++ ys)
  rising-parts key xs ys hx hy lower upper =
      pairs_append (λ p q. p.0 < q.0) xs ys hx hy (All-weaker (λ p. p.0 < key) (λ p. All (λ q. p.0 < q.0) ys) (λ p h. All-weaker (λ q. key ≤ q.0) (λ q. p.0 < q.0) (λ q k. omega arith) ys upper) xs lower)

  -- the parts of a rising list rise, and each key of the first is below each key of the second
  pub rising_first : (xs ys : List (ℕ × M)) → AreRising (xs ++ ys) → AreRising xs
  rising_first xs ys h = pairs_first (λ p q. p.0 < q.0) xs ys h

  pub rising_second : (xs ys : List (ℕ × M)) → AreRising (xs ++ ys) → AreRising ys
  rising_second xs ys h = pairs_second (λ p q. p.0 < q.0) xs ys h

  pub rising_across : (xs ys : List (ℕ × M)) → AreRising (xs ++ ys) → All (λ p. All (λ q. p.0 < q.0) ys) xs
  rising_across xs ys h = pairs_across (λ p q. p.0 < q.0) xs ys h

  -- around a pair of a rising list
  pub rising_below : (xs ys : List (ℕ × M)) (p : ℕ × M) → AreRising (xs ++ p ∷ ys) → All (λ q. q.0 < p.0) xs
  rising_below xs ys p h =
      All-weaker (λ q. All (λ r. q.0 < r.0) (p ∷ ys)) (λ q. q.0 < p.0) (λ q k. All-head (λ r. q.0 < r.0) p ys k) xs (rising_across xs (p ∷ ys) h)

  pub rising_above : (xs ys : List (ℕ × M)) (p : ℕ × M) → AreRising (xs ++ p ∷ ys) → All (λ q. p.0 < q.0) ys
  rising_above xs ys p h = pairs_head (λ p q. p.0 < q.0) p ys (rising_second xs (p ∷ ys) h)

  pub all_below : (key : ℕ) (ps : List (ℕ × M)) → All (λ p. p.0 < key) (pairs_below key ps)
  all_below key ps =
      All-weaker (λ p. nat_lt p.0 key ≡ true) (λ p. p.0 < key) (λ p h. from_lt p.0 key h) (pairs_below key ps) (filter_passes (λ p. nat_lt p.0 key) ps)

  pub all_from : (key : ℕ) (ps : List (ℕ × M)) → All (λ p. key ≤ p.0) (pairs_from key ps)
  all_from key ps =
      All-weaker (λ p. nat_le key p.0 ≡ true) (λ p. key ≤ p.0) (λ p h. from_le key p.0 h) (pairs_from key ps) (filter_passes (λ p. nat_le key p.0) ps)

  all_above : (key : ℕ) (ps : List (ℕ × M)) → All (λ p. key ≤ p.0) ps → All (λ p. (p.0 == key) ≡ false) ps → All (λ p. key < p.0) ps
  all_above key ps h other k d l = above_other _ key (h k d l) (other k d l)

  -- rising keys still rise after an insertion, another value, and a removal
  pub rising-inserted : (key : ℕ) (value : M) (ps : List (ℕ × M)) → AreRising ps → has_key key ps ≡ false → AreRising (inserted key value ps)
  rising-inserted key value ps h absent =
      let above : All (λ p. key < p.0) (pairs_from key ps) = all_above key (pairs_from key ps) (all_from key ps) (All-filter (λ p. nat_le key p.0) (λ p. (p.0 == key) ≡ false) ps (none_of_any (λ p. p.0 == key) ps absent)) in
      let behind : AreRising (pairs_from key ps) = AllPairs-filter (λ p q. p.0 < q.0) (λ p. nat_le key p.0) ps h in
      rising-parts key (pairs_below key ps) ((key, value) ∷ pairs_from key ps) (AllPairs-filter (λ p q. p.0 < q.0) (λ p. nat_lt p.0 key) ps h) (AllPairs-cons (λ p q. p.0 < q.0) (key, value) (pairs_from key ps) above behind) (all_below key ps) (All-cons (λ p. key ≤ p.0) (key, value) (pairs_from key ps) (omega arith) (all_from key ps))

  key_stays : (key : ℕ) (value : M) (p : ℕ × M) → (cond (p.0 == key) (key, value) p).0 ≡ p.0
  key_stays key value p = grind (arith, nat_tests)

  pub rising-replaced : (key : ℕ) (value : M) (ps : List (ℕ × M)) → AreRising ps → AreRising (replaced key value ps)
  rising-replaced key value ps h =
      pairs_map (λ p q. p.0 < q.0) (λ p q. p.0 < q.0) (λ p. cond (p.0 == key) (key, value) p) (λ p q r. omega (arith, key_stays key value p, key_stays key value q)) ps h

  pub rising-without : (key : ℕ) (ps : List (ℕ × M)) → AreRising ps → AreRising (without key ps)
  rising-without key ps h = AllPairs-filter (λ p q. p.0 < q.0) (λ p. not (p.0 == key)) ps h
