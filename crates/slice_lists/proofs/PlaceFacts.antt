-- Places in lists that are sorted by time.
use Rattle.std.proofs.Common.{◌≡◌, ◌∙◌, pos, ℕ, zero, suc, ◌+◌, ◌-◌, ◌<◌, ◌≤◌, Bool, true, false, eqb, List, [], ◌∷◌, length, get_or, map, ap, sym, refl, subst, arith}
use Rattle.std.specs.Prelude.{◌&&◌, insert, nat_le, nat_lt}
use Rattle.std.specs.BTreeSet.{insert_key}
use Rattle.std.specs.List.{All, list_any, position_or_len}
use Rattle.std.specs.List.Sorted.{IsNonDecreasing, IsNonDecreasingBy, IsPartitionPoint, IsStrictlyIncreasing}
use Rattle.std.specs.Ordering.{match_ordering, nat_cmp}
use Rattle.std.specs.declared.cmp.Ordering.TheVariants.{Less, Equal, Greater}
use Rattle.std.proofs.lemmas.Bool.{and_parts, eqb-true, le-ltb, lt-ltb, ltb-true, ltb-false, leb-false}
use Rattle.std.proofs.lemmas.Bool.Decides.{nat_tests}
use Rattle.std.proofs.lemmas.List.{get_or-map, get_or_default, length-map}
use Rattle.std.proofs.lemmas.List.Folds.{list_any_at, list_any_none}
use Rattle.std.proofs.lemmas.List.Sums.{position_or_len_is}
use Rattle.std.proofs.lemmas.Map.Keys.{sorted_from_strictly_increasing, non_decreasing_from_sorted}
use Rattle.stream_base.specs.declared.kept.Kept.{Kept}
use Rattle.stream_base.specs.Laws.{TimesDoNotFall}
use Rattle.stream_base.specs.Model.Windows.{last_time}
use Rattle.stream_base.specs.Places.{IsPlaceOf}

-- some tuple, for lemmas that want one
abbrev pub some_tuple : Kept
some_tuple = record { position = 0; time = 0; value = pos 0 }

pub place_from_point : {X : Type 0} (time_of : X → ℕ) (xs : List X) (time place : ℕ) → place ≤ length xs → IsPartitionPoint (λ y. nat_lt (time_of y) time ≡ true) (λ y. nat_lt (time_of y) time ≡ false) xs place → IsPlaceOf time_of xs time place
place_from_point time_of xs time place le point = record {
  within = le;
  before = λ k d low high. ltb-true (time_of (get_or xs k d)) time (point.0 k d low high);
  behind = λ k d low high. ltb-false (time_of (get_or xs k d)) time (point.1 k d low high);
}

pub marks_do_not_fall : (marks : List ℕ) → IsStrictlyIncreasing marks → IsNonDecreasing marks
marks_do_not_fall marks h = non_decreasing_from_sorted marks (sorted_from_strictly_increasing marks h)

-- all lie before a time where the last one does
pub place_at_end : {X : Type 0} (time_of : X → ℕ) (xs : List X) (time : ℕ) (d : X) → IsNonDecreasingBy time_of xs → (0 < length xs → time_of (get_or xs (length xs - 1) d) < time) → IsPlaceOf time_of xs time (length xs)
place_at_end time_of xs time d h last = record {
  within = omega arith;
  before = λ k e low high.
      let le : time_of (get_or xs k d) ≤ time_of (get_or xs (length xs - 1) d) = h k (length xs - 1) d (omega arith) (omega arith) in
      let end : time_of (get_or xs (length xs - 1) d) < time = last (omega arith) in
      omega (arith, ap time_of (get_or_default xs k e d high));
  behind = λ k e low high. absurd (omega arith);
}

-- a place among what shows of elements is one among the elements
pub place_of_map : {X Y : Type 0} (time_of : Y → ℕ) (f : X → Y) (xs : List X) (ys : List Y) (time place : ℕ) → ys ≡ map f xs → IsPlaceOf time_of ys time place → IsPlaceOf (λ x. time_of (f x)) xs time place
place_of_map time_of f xs ys time place e h =
    let n : length ys ≡ length xs = ap length e ∙ length-map xs f in
    record {
      within = omega (arith, h.within);
      before = λ k d low high.
          let l : k < length xs = omega (arith, h.within) in
          let same : get_or ys k (f d) ≡ f (get_or xs k d) = ap (λ l. get_or l k (f d)) e ∙ get_or-map f xs k d (f d) l in
          omega (arith, ap time_of same, h.before k (f d) low high);
      behind = λ k d low high.
          let same : get_or ys k (f d) ≡ f (get_or xs k d) = ap (λ l. get_or l k (f d)) e ∙ get_or-map f xs k d (f d) high in
          omega (arith, ap time_of same, h.behind k (f d) low (omega arith));
    }

-- behind the tuples of its time and of earlier ones
pub place_is : (kept : List Kept) (time place : ℕ) (d : Kept) → IsPlaceOf (λ x. x.time) kept (time + 1) place → position_or_len (λ (y : Kept). nat_lt time y.time) kept ≡ place
place_is kept time place d h =
    position_or_len_is (λ (y : Kept). nat_lt time y.time) kept place d h.within
    (λ k l. le-ltb time (get_or kept k d).time (let h2 : (get_or kept k d).time < time + 1 = h.before k d (omega arith) l in omega arith))
    (λ l. lt-ltb time (get_or kept place d).time (let h2 : time + 1 ≤ (get_or kept place d).time = h.behind place d (omega arith) l in omega arith))

-- at the end, where none is of a later time
pub place_is_end : (kept : List Kept) (time : ℕ) (d : Kept) → TimesDoNotFall kept → ((i : ℕ) → i + 1 ≡ length kept → (get_or kept i d).time ≤ time) → position_or_len (λ (y : Kept). nat_lt time y.time) kept ≡ length kept
place_is_end kept time d h last =
    position_or_len_is (λ (y : Kept). nat_lt time y.time) kept (length kept) d (omega arith)
    (λ k l. le-ltb time (get_or kept k d).time
    (let le : (get_or kept k d).time ≤ (get_or kept (length kept - 1) d).time = h k (length kept - 1) d (omega arith) (omega arith) in
    let end : (get_or kept (length kept - 1) d).time ≤ time = last (length kept - 1) (omega arith) in
    omega arith))
    (λ l. absurd (omega arith))

-- the last time is that of the last tuple
pub last_read : (kept : List Kept) (i : ℕ) (d : Kept) → i + 1 ≡ length kept → last_time kept ≡ (get_or kept i d).time
last_read [] i d e = absurd (omega arith)
last_read (x ∷ []) zero d e = refl
last_read (x ∷ []) (suc i) d e = absurd (omega arith)
last_read (x ∷ y ∷ ys) zero d e = absurd (omega arith)
last_read (x ∷ y ∷ ys) (suc i) d e = last_read (y ∷ ys) i d (omega arith)

pub last_is : (kept : List Kept) → last_time kept ≡ (get_or kept (length kept - 1) some_tuple).time
last_is [] = refl
last_is (x ∷ xs) = last_read (x ∷ xs) (length (x ∷ xs) - 1) some_tuple (omega arith)

-- ---- marks
less : (a b : ℕ) → a < b → nat_cmp a b ≡ Less
less a b h = grind (arith, nat_tests)

greater : (a b : ℕ) → b < a → nat_cmp a b ≡ Greater
greater a b h = grind (arith, nat_tests)

equal : (a b : ℕ) → a ≡ b → nat_cmp a b ≡ Equal
equal a b h = grind (arith, nat_tests)

-- a mark that is there is added no more
there_already : (marks : List ℕ) (time place : ℕ) → place < length marks → ((k : ℕ) → k < place → get_or marks k 0 < time) → get_or marks place 0 ≡ time → insert_key nat_cmp marks time ≡ marks
there_already [] time place l before at = absurd (omega arith)
there_already (x ∷ xs) time zero l before at = ap (λ o. match_ordering o (time ∷ x ∷ xs) (x ∷ xs) (x ∷ insert_key nat_cmp xs time)) (equal time x (sym at))
there_already (x ∷ xs) time (suc place) l before at =
    ap (λ o. match_ordering o (time ∷ x ∷ xs) (x ∷ xs) (x ∷ insert_key nat_cmp xs time)) (greater time x (before 0 (omega arith)))
    ∙ ap (λ ms. x ∷ ms) (there_already xs time place (omega arith) (λ k h. before (suc k) (omega arith)) at)

-- one that isn't is put before the first later one
put_at : (marks : List ℕ) (time place : ℕ) → place ≤ length marks → ((k : ℕ) → k < place → get_or marks k 0 < time) → (place < length marks → time < get_or marks place 0) → insert_key nat_cmp marks time ≡ insert marks place time
put_at [] time zero l before behind = refl
put_at [] time (suc place) l before behind = absurd (omega arith)
put_at (x ∷ xs) time zero l before behind = ap (λ o. match_ordering o (time ∷ x ∷ xs) (x ∷ xs) (x ∷ insert_key nat_cmp xs time)) (less time x (behind (omega arith)))
put_at (x ∷ xs) time (suc place) l before behind =
    ap (λ o. match_ordering o (time ∷ x ∷ xs) (x ∷ xs) (x ∷ insert_key nat_cmp xs time)) (greater time x (before 0 (omega arith)))
    ∙ ap (λ ms. x ∷ ms) (put_at xs time place (omega arith) (λ k h. before (suc k) (omega arith)) (λ h. behind (omega arith)))

-- what the test of a mark at its place tells
pub marked : (marks xs ys : List ℕ) (time place : ℕ) → xs ≡ marks → ys ≡ marks → IsPlaceOf (λ m. m) xs time place → (nat_lt place (length ys) && eqb (get_or ys place 0) time) ≡ true → marks ≡ insert_key nat_cmp marks time
marked marks xs ys time place e f h t =
    let at : IsPlaceOf (λ m. m) marks time place = subst (λ ms. IsPlaceOf (λ m. m) ms time place) e h in
    let both : (nat_lt place (length marks) ≡ true) × (eqb (get_or marks place 0) time ≡ true) = and_parts (nat_lt place (length marks)) (eqb (get_or marks place 0) time) (subst (λ ms. (nat_lt place (length ms) && eqb (get_or ms place 0) time) ≡ true) f t) in
    sym (there_already marks time place (ltb-true place (length marks) both.0) (λ k l. at.before k 0 (omega arith) l) (eqb-true (get_or marks place 0) time both.1))

pub unmarked : (marks xs ys : List ℕ) (time place : ℕ) → xs ≡ marks → ys ≡ marks → IsPlaceOf (λ m. m) xs time place → (nat_lt place (length ys) && eqb (get_or ys place 0) time) ≡ false → insert marks place time ≡ insert_key nat_cmp marks time
unmarked marks xs ys time place e f h t =
    let at : IsPlaceOf (λ m. m) marks time place = subst (λ ms. IsPlaceOf (λ m. m) ms time place) e h in
    let test : (nat_lt place (length marks) && eqb (get_or marks place 0) time) ≡ false = subst (λ ms. (nat_lt place (length ms) && eqb (get_or ms place 0) time) ≡ false) f t in
    sym (put_at marks time place at.within (λ k l. at.before k 0 (omega arith) l) (λ l. differs (get_or marks place 0) (length marks) l (at.behind place 0 (omega arith) l) test))
  where
    differs : (mark n : ℕ) → place < n → time ≤ mark → (nat_lt place n && eqb mark time) ≡ false → time < mark
    differs mark n l le t = grind (arith, nat_tests)

before_low : (low high m : ℕ) → m < low + 1 → (nat_lt low m && nat_le m high) ≡ false
before_low low high m h = grind (arith, nat_tests)

behind_high : (low high m : ℕ) → high < m → (nat_lt low m && nat_le m high) ≡ false
behind_high low high m h = grind (arith, nat_tests)

in_between : (low high m : ℕ) → low + 1 ≤ m → nat_le m high ≡ true → (nat_lt low m && nat_le m high) ≡ true
in_between low high m h t = grind (arith, nat_tests)

module _ (marks : List ℕ) (low high place : ℕ) where
  -- no mark stands behind the earlier time
  pub no_mark : IsPlaceOf (λ m. m) marks (low + 1) place → length marks ≤ place → nat_lt place (length marks) ≡ list_any (λ m. nat_lt low m && nat_le m high) marks
  no_mark at le =
      le-ltb place (length marks) le
      ∙ sym (list_any_none (λ m. nat_lt low m && nat_le m high) marks (λ k d l. before_low low high (get_or marks k d) (at.before k d (omega arith) (omega arith))))

  -- the first mark behind it decides
  pub first_mark_decides : IsStrictlyIncreasing marks → IsPlaceOf (λ m. m) marks (low + 1) place → place < length marks → list_any (λ m. nat_lt low m && nat_le m high) marks ≡ nat_le (get_or marks place 0) high
  first_mark_decides rising at lt = by (nat_le (get_or marks place 0) high) refl
    where
      by : (t : Bool) → nat_le (get_or marks place 0) high ≡ t → list_any (λ m. nat_lt low m && nat_le m high) marks ≡ t
      by true e = list_any_at (λ m. nat_lt low m && nat_le m high) marks place 0 lt (in_between low high (get_or marks place 0) (at.behind place 0 (omega arith) lt) e)
      by false e = list_any_none (λ m. nat_lt low m && nat_le m high) marks none
        where
          after : high < get_or marks place 0
          after = leb-false (get_or marks place 0) high e

          each : (k d : ℕ) → k < length marks → (t : Bool) → nat_lt k place ≡ t → (nat_lt low (get_or marks k d) && nat_le (get_or marks k d) high) ≡ false
          each k d l true u = before_low low high (get_or marks k d) (at.before k d (omega arith) (ltb-true k place u))
          each k d l false u =
              let rise : get_or marks place d ≤ get_or marks k d = marks_do_not_fall marks rising place k d (ltb-false k place u) l in
              behind_high low high (get_or marks k d) (omega (arith, rise, after, get_or_default marks place d 0 lt))

          none : All (λ m. (nat_lt low m && nat_le m high) ≡ false) marks
          none k d l = each k d l (nat_lt k place) refl
