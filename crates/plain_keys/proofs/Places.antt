-- Where a tuple or mark is put.
use Rattle.std.proofs.Common.{◌≡◌, ◌∙◌, ℕ, zero, suc, ◌+◌, ◌-◌, ◌<◌, ◌≤◌, true, false, eqb, List, [], ◌∷◌, length, get_or, ap, sym, refl, subst, arith}
use Rattle.std.specs.Prelude.{◌&&◌, insert, nat_lt}
use Rattle.std.specs.BTreeSet.{insert_key}
use Rattle.std.specs.List.{position_or_len}
use Rattle.std.specs.Ordering.{match_ordering, nat_cmp}
use Rattle.std.specs.declared.cmp.Ordering.TheVariants.{Less, Equal, Greater}
use Rattle.std.proofs.lemmas.Bool.{and_parts, eqb-true, le-ltb, lt-ltb, ltb-true}
use Rattle.std.proofs.lemmas.Bool.Decides.{nat_tests}
use Rattle.std.proofs.lemmas.List.{get_or_default}
use Rattle.std.proofs.lemmas.List.Sums.{position_or_len_is}
use Rattle.stream_base.specs.declared.kept.Kept.{Kept}
use Rattle.stream_base.specs.Laws.{TimesDoNotFall}
use Rattle.stream_base.specs.Model.Journal.{put_in_order}
use Rattle.stream_base.specs.Places.{IsPlaceOf}

-- behind the tuples of its time and of earlier ones
pub place_is : (kept : List Kept) (time place : ℕ) (d : Kept) → IsPlaceOf (λ x. x.time) kept (time + 1) place → position_or_len (λ (y : Kept). nat_lt time y.time) kept ≡ place
place_is kept time place d h =
    position_or_len_is (λ (y : Kept). nat_lt time y.time) kept place d h.within
    (λ k l. le-ltb time (get_or kept k d).time (let h2 : (get_or kept k d).time < time + 1 = h.before k d (omega arith) l in omega arith))
    (λ l. lt-ltb time (get_or kept place d).time (let h2 : time + 1 ≤ (get_or kept place d).time = h.behind place d (omega arith) l in omega arith))

-- where the last one isn't of a later time, it is the end
pub end_is : (kept : List Kept) (time : ℕ) (d : Kept) → TimesDoNotFall kept → ((i : ℕ) → i + 1 ≡ length kept → (get_or kept i d).time ≤ time) → IsPlaceOf (λ x. x.time) kept (time + 1) (length kept)
end_is kept time d h last = record {
  within = omega arith;
  before = λ k e from l.
      let same : get_or kept k d ≡ get_or kept k e = get_or_default kept k d e l in
      let le : (get_or kept k d).time ≤ (get_or kept (length kept - 1) d).time = h k (length kept - 1) d (omega arith) (omega arith) in
      let end : (get_or kept (length kept - 1) d).time ≤ time = last (length kept - 1) (omega arith) in
      subst (λ (x : Kept). x.time < time + 1) same (omega arith);
  behind = λ k e from l. absurd (omega arith);
}

-- ---- marks
less : (a b : ℕ) → a < b → nat_cmp a b ≡ Less
less a b h = grind (arith, nat_tests)

greater : (a b : ℕ) → b < a → nat_cmp a b ≡ Greater
greater a b h = grind (arith, nat_tests)

equal : (a b : ℕ) → a ≡ b → nat_cmp a b ≡ Equal
equal a b h = grind (arith, nat_tests)

-- a mark that is there is added no more
pub there_already : (marks : List ℕ) (time place : ℕ) → place < length marks → ((k : ℕ) → k < place → get_or marks k 0 < time) → get_or marks place 0 ≡ time → insert_key nat_cmp marks time ≡ marks
there_already [] time place l before at = absurd (omega arith)
there_already (x ∷ xs) time zero l before at = ap (λ o. match_ordering o (time ∷ x ∷ xs) (x ∷ xs) (x ∷ insert_key nat_cmp xs time)) (equal time x (sym at))
there_already (x ∷ xs) time (suc place) l before at =
    ap (λ o. match_ordering o (time ∷ x ∷ xs) (x ∷ xs) (x ∷ insert_key nat_cmp xs time)) (greater time x (before 0 (omega arith)))
    ∙ ap (λ ms. x ∷ ms) (there_already xs time place (omega arith) (λ k h. before (suc k) (omega arith)) at)

-- one that isn't is put before the first later one
pub put_at : (marks : List ℕ) (time place : ℕ) → place ≤ length marks → ((k : ℕ) → k < place → get_or marks k 0 < time) → (place < length marks → time < get_or marks place 0) → insert_key nat_cmp marks time ≡ insert marks place time
put_at [] time zero l before behind = refl
put_at [] time (suc place) l before behind = absurd (omega arith)
put_at (x ∷ xs) time zero l before behind = ap (λ o. match_ordering o (time ∷ x ∷ xs) (x ∷ xs) (x ∷ insert_key nat_cmp xs time)) (less time x (behind (omega arith)))
put_at (x ∷ xs) time (suc place) l before behind =
    ap (λ o. match_ordering o (time ∷ x ∷ xs) (x ∷ xs) (x ∷ insert_key nat_cmp xs time)) (greater time x (before 0 (omega arith)))
    ∙ ap (λ ms. x ∷ ms) (put_at xs time place (omega arith) (λ k h. before (suc k) (omega arith)) (λ h. behind (omega arith)))

-- what the test of a mark at its place tells
pub marked : (marks xs ys : List ℕ) (time place : ℕ) → xs ≡ marks → ys ≡ marks → IsPlaceOf (λ m. m) xs time place → (nat_lt place (length ys) && eqb (get_or ys place 0) time) ≡ true → marks ≡ insert_key nat_cmp marks time
marked marks xs ys time place e f h t =
    let at : IsPlaceOf (λ m. m) marks time place = subst (λ ms. IsPlaceOf (λ m. m) ms time place) e h in
    let both : (nat_lt place (length marks) ≡ true) × (eqb (get_or marks place 0) time ≡ true) = and_parts (nat_lt place (length marks)) (eqb (get_or marks place 0) time) (subst (λ ms. (nat_lt place (length ms) && eqb (get_or ms place 0) time) ≡ true) f t) in
    sym (there_already marks time place (ltb-true place (length marks) both.0) (λ k l. at.before k 0 (omega arith) l) (eqb-true (get_or marks place 0) time both.1))

pub unmarked : (marks xs ys : List ℕ) (time place : ℕ) → xs ≡ marks → ys ≡ marks → IsPlaceOf (λ m. m) xs time place → (nat_lt place (length ys) && eqb (get_or ys place 0) time) ≡ false → insert marks place time ≡ insert_key nat_cmp marks time
unmarked marks xs ys time place e f h t =
    let at : IsPlaceOf (λ m. m) marks time place = subst (λ ms. IsPlaceOf (λ m. m) ms time place) e h in
    let test : (nat_lt place (length marks) && eqb (get_or marks place 0) time) ≡ false = subst (λ ms. (nat_lt place (length ms) && eqb (get_or ms place 0) time) ≡ false) f t in
    sym (put_at marks time place at.within (λ k l. at.before k 0 (omega arith) l) (λ l. differs (get_or marks place 0) (length marks) l (at.behind place 0 (omega arith) l) test))
  where
    differs : (mark n : ℕ) → place < n → time ≤ mark → (nat_lt place n && eqb mark time) ≡ false → time < mark
    differs mark n l le t = grind (arith, nat_tests)

-- a tuple at its place is in order
pub put_there : (kept ks : List Kept) (x : Kept) (place : ℕ) → ks ≡ kept → IsPlaceOf (λ y. y.time) ks (x.time + 1) place → insert kept place x ≡ put_in_order kept x
put_there kept ks x place e is = ap (λ n. insert kept n x) (sym (place_is ks x.time place x is) ∙ ap (position_or_len (λ (y : Kept). nat_lt x.time y.time)) e)
