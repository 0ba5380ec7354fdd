-- What stands on the two sides of a place in a list that is sorted by time.
use Rattle.std.proofs.Common.{◌≡◌, ◌∙◌, ℕ, ◌+◌, ◌-◌, ◌<◌, ◌≤◌, Bool, true, false, cond, List, [], ◌∷◌, ◌++◌, length, get_or, take, drop, ap, sym, refl, subst, pos, arith, length-take, length-drop, get_or-take, get_or-drop}
use Rattle.std.specs.Prelude.{nat_le, nat_lt}
use Rattle.std.specs.List.{All, AllWithin, Contains, filter}
use Rattle.std.specs.List.Sorted.{IsNonDecreasing, IsPartitionPoint, IsPartitionedBy, IsStrictlyIncreasing}
use Rattle.std.proofs.lemmas.Bool.{ltb-true, ltb-false, le-leb, lt-ltb, le-ltb, lt-leb, and_from, and_left, and_right}
use Rattle.std.proofs.lemmas.List.{take-append-drop, drop-drop, append-nil, get_or_default}
use Rattle.std.proofs.lemmas.List.Elements.{All-head, All-tail, filter-append}
use Rattle.std.proofs.lemmas.List.Sorted.{IsNonDecreasingBy-drop, IsPartitionedBy-ltb}
use Rattle.std.proofs.lemmas.Map.Keys.{sorted_from_strictly_increasing, non_decreasing_from_sorted}
use Rattle.stream_base.specs.declared.kept.Kept.{Kept}
use Rattle.stream_base.specs.Laws.{TimesDoNotFall}
use Rattle.stream_base.specs.Model.Windows.{is_within, within}
use Rattle.stream_base.specs.Places.{IsPlaceOf}

-- some tuple, for lemmas that want one
abbrev pub some_tuple : Kept
some_tuple = record { position = 0; time = 0; value = pos 0 }

module _ {X : Type 0} (time_of : X → ℕ) (xs : List X) (time place : ℕ) where
  pub place_from_point : place ≤ length xs → IsPartitionPoint (λ y. nat_lt (time_of y) time ≡ true) (λ y. nat_lt (time_of y) time ≡ false) xs place → IsPlaceOf time_of xs time place
  place_from_point le point = record {
    within = le;
    before = λ k d low high. ltb-true (time_of (get_or xs k d)) time (point.0 k d low high);
    behind = λ k d low high. ltb-false (time_of (get_or xs k d)) time (point.1 k d low high);
  }

  -- the elements before the place, and those behind it
  pub all_before : IsPlaceOf time_of xs time place → All (λ x. time_of x < time) (take place xs)
  all_before h k d l =
      let below : k < place = omega (arith, length-take place xs) in
      rw (get_or-take place xs k d) (h.before k d (omega arith) below)

  pub all_behind : IsPlaceOf time_of xs time place → All (λ x. time ≤ time_of x) (drop place xs)
  all_behind h k d l =
      let inside : place + k < length xs = omega (arith, length-drop place xs) in
      rw (get_or-drop place xs k d) (h.behind (place + k) d (omega arith) inside)

  -- so do those in front of a place before it
  pub all_in_front : (n : ℕ) → n ≤ place → IsPlaceOf time_of xs time place → All (λ x. time_of x < time) (take n xs)
  all_in_front n le h k d l =
      let below : k < n = omega (arith, length-take n xs) in
      rw (get_or-take n xs k d) (h.before k d (omega arith) (omega arith))

  pub all_where_none_behind : length xs ≤ place → IsPlaceOf time_of xs time place → All (λ x. time_of x < time) xs
  all_where_none_behind le h k d l = h.before k d (omega arith) (omega arith)

  -- an element at or after the time stands at or behind the place
  pub is_behind : IsPlaceOf time_of xs time place → (k : ℕ) (d : X) → time ≤ time_of (get_or xs k d) → place ≤ k
  is_behind h k d le = by (nat_lt k place) refl
    where
      by : (t : Bool) → nat_lt k place ≡ t → place ≤ k
      by true e = let early : time_of (get_or xs k d) < time = h.before k d (omega arith) (ltb-true k place e) in absurd (omega arith)
      by false e = ltb-false k place e

module _ {X : Type 0} (time_of : X → ℕ) (xs : List X) (time start at : ℕ) (le : start ≤ length xs) (front : AllWithin (λ x. time_of x < time) xs 0 start) (h : IsPlaceOf time_of (drop start xs) time at) where
  early_behind : (k : ℕ) (d : X) → k < start + at → (t : Bool) → nat_lt k start ≡ t → time_of (get_or xs k d) < time
  early_behind k d high true e = front k d (omega arith) (ltb-true k start e)
  early_behind k d high false e =
      let far : start ≤ k = ltb-false k start e in
      let same : start + (k - start) ≡ k = omega arith in
      subst (λ n. time_of (get_or xs n d) < time) same (rw (sym (get_or-drop start xs (k - start) d)) (h.before (k - start) d (omega arith) (omega arith)))

  late_behind : (k : ℕ) (d : X) → start + at ≤ k → k < length xs → time ≤ time_of (get_or xs k d)
  late_behind k d low high =
      let near : k - start < length (drop start xs) = omega (arith, length-drop start xs) in
      let same : start + (k - start) ≡ k = omega arith in
      subst (λ n. time ≤ time_of (get_or xs n d)) same (rw (sym (get_or-drop start xs (k - start) d)) (h.behind (k - start) d (omega arith) near))

  -- a place behind a start before which all elements lie before the time
  pub place_behind : IsPlaceOf time_of xs time (start + at)
  place_behind = record {
    within = omega (arith, h.within, length-drop start xs);
    before = λ k d low high. early_behind k d high (nat_lt k start) refl;
    behind = late_behind;
  }

-- where the tuples up to a start lie before the time, a search among the others finds the place
pub searched_behind : (kept : List Kept) (time start at : ℕ) (near : List Kept) → TimesDoNotFall kept → start ≤ length kept → AllWithin (λ (x : Kept). x.time < time) kept 0 start → near ≡ drop start kept → at ≤ length near
    → (IsPartitionedBy (λ (x : Kept). nat_lt x.time time) near → IsPartitionPoint (λ (x : Kept). nat_lt x.time time ≡ true) (λ (x : Kept). nat_lt x.time time ≡ false) near at) → IsPlaceOf (λ (x : Kept). x.time) kept time (start + at)
searched_behind kept time start at near sorted le front same bound point =
    let parted = subst (λ l. IsPartitionedBy (λ (x : Kept). nat_lt x.time time) l) (sym same) (IsPartitionedBy-ltb (λ (x : Kept). x.time) (drop start kept) time (IsNonDecreasingBy-drop (λ (x : Kept). x.time) start kept sorted)) in
    let place = place_from_point (λ (x : Kept). x.time) near time at bound (point parted) in
    place_behind (λ (x : Kept). x.time) kept time start at le front (subst (λ l. IsPlaceOf (λ (x : Kept). x.time) l time at) same place)

-- the tuple at a place is the first at or after the time
pub first_behind : (kept : List Kept) (time place : ℕ) (d x : Kept) → TimesDoNotFall kept → IsPlaceOf (λ (x : Kept). x.time) kept time place → Contains kept x → time ≤ x.time → (place < length kept) × ((get_or kept place d).time ≤ x.time)
first_behind kept time place d x sorted at c le =
    let same : get_or kept c.0 d ≡ x = get_or_default kept c.0 d x c.1 ∙ c.2 in
    let late : time ≤ (get_or kept c.0 d).time = omega (arith, ap (λ (y : Kept). y.time) same) in
    let behind : place ≤ c.0 = is_behind (λ (x : Kept). x.time) kept time place at c.0 d late in
    let before : (get_or kept place d).time ≤ (get_or kept c.0 d).time = sorted place c.0 d behind c.1 in
    (omega (arith, c.1), omega (arith, before, ap (λ (y : Kept). y.time) same))

-- a later time has a later place
pub places_rise : {X : Type 0} (time_of : X → ℕ) (xs : List X) (a b i j : ℕ) → X → a ≤ b → IsPlaceOf time_of xs a i → IsPlaceOf time_of xs b j → i ≤ j
places_rise time_of xs a b i j d le h k = by (nat_lt j i) refl
  where
    by : (t : Bool) → nat_lt j i ≡ t → i ≤ j
    by true e =
        let l : j < i = ltb-true j i e in
        let below : time_of (get_or xs j d) < a = h.before j d (omega arith) l in
        let above : b ≤ time_of (get_or xs j d) = k.behind j d (omega arith) (omega (arith, h.within)) in
        absurd (omega arith)
    by false e = ltb-false j i e

filter_none : {X : Type 0} (p : X → Bool) (xs : List X) → All (λ x. p x ≡ false) xs → filter p xs ≡ []
filter_none p [] h = refl
filter_none p (x ∷ xs) h = ap (λ b. cond b (x ∷ filter p xs) (filter p xs)) (All-head (λ x. p x ≡ false) x xs h) ∙ filter_none p xs (All-tail (λ x. p x ≡ false) x xs h)

filter_all : {X : Type 0} (p : X → Bool) (xs : List X) → All (λ x. p x ≡ true) xs → filter p xs ≡ xs
filter_all p [] h = refl
filter_all p (x ∷ xs) h =
    ap (λ b. cond b (x ∷ filter p xs) (filter p xs)) (All-head (λ x. p x ≡ true) x xs h)
    ∙ ap (λ l. x ∷ l) (filter_all p xs (All-tail (λ x. p x ≡ true) x xs h))

pub marks_do_not_fall : (marks : List ℕ) → IsStrictlyIncreasing marks → IsNonDecreasing marks
marks_do_not_fall marks h = non_decreasing_from_sorted marks (sorted_from_strictly_increasing marks h)

-- the tuples of an interval stand between the places of its ends
module _ (low high : ℕ) (kept : List Kept) (first end : ℕ) (le : low ≤ high) (from : IsPlaceOf (λ (x : Kept). x.time) kept low first) (to : IsPlaceOf (λ (x : Kept). x.time) kept high end) where
  pub ends_in_order : first ≤ end
  ends_in_order = places_rise (λ (x : Kept). x.time) kept low high first end some_tuple le from to

  early : All (λ x. is_within low high x ≡ false) (take first kept)
  early k d l = and_left (nat_le low (get_or (take first kept) k d).time) _ (lt-leb low (get_or (take first kept) k d).time (all_before (λ (x : Kept). x.time) kept low first from k d l))

  inside : All (λ x. is_within low high x ≡ true) (take (end - first) (drop first kept))
  inside k d l =
      let near : k < end - first = omega (arith, length-take (end - first) (drop first kept)) in
      let far : first + k < length kept = omega (arith, to.within) in
      let same : get_or (take (end - first) (drop first kept)) k d ≡ get_or kept (first + k) d = get_or-take (end - first) (drop first kept) k d near ∙ get_or-drop first kept k d in
      let after : low ≤ (get_or kept (first + k) d).time = from.behind (first + k) d (omega arith) far in
      let before : (get_or kept (first + k) d).time < high = to.before (first + k) d (omega arith) (omega arith) in
      subst (λ x. is_within low high x ≡ true) (sym same)
      (and_from (nat_le low (get_or kept (first + k) d).time) (nat_lt (get_or kept (first + k) d).time high) (le-leb low _ after) (lt-ltb _ high before))

  late : All (λ x. is_within low high x ≡ false) (drop end kept)
  late k d l = and_right _ (nat_lt (get_or (drop end kept) k d).time high) (le-ltb (get_or (drop end kept) k d).time high (all_behind (λ (x : Kept). x.time) kept high end to k d l))

  parts : kept ≡ take first kept ++ (take (end - first) (drop first kept) ++ drop end kept)
  parts =
      let next : first + (end - first) ≡ end = omega (arith, ends_in_order) in
      sym (ap (λ l. take first kept ++ l) (ap (λ l. take (end - first) (drop first kept) ++ l) (sym (drop-drop (end - first) first kept ∙ ap (λ n. drop n kept) next)) ∙ take-append-drop (end - first) (drop first kept)) ∙ take-append-drop first kept)

  pub within_is_part : within low high kept ≡ take (end - first) (drop first kept)
  within_is_part =
      let middle = take (end - first) (drop first kept) in
      ap (filter (is_within low high)) parts
      ∙ filter-append (is_within low high) (take first kept) (middle ++ drop end kept)
      ∙ ap (λ l. l ++ filter (is_within low high) (middle ++ drop end kept)) (filter_none (is_within low high) (take first kept) early)
      ∙ filter-append (is_within low high) middle (drop end kept)
      ∙ ap (λ l. l ++ filter (is_within low high) (drop end kept)) (filter_all (is_within low high) middle inside)
      ∙ ap (λ l. middle ++ l) (filter_none (is_within low high) (drop end kept) late)
      ∙ append-nil middle
