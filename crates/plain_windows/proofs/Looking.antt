-- An instance that stands, looked up by its start and end.
use Rattle.std.proofs.Common.{◌≡◌, ◌≢◌, ◌∙◌, ℕ, suc, ◌+◌, ◌<◌, ◌≤◌, Bool, true, false, cond, eqb, List, [], ◌∷◌, length, get_or, drop, ap, sym, refl, arith, Option, None, Some}
use Rattle.std.specs.Prelude.{◌&&◌, ◌||◌, nat_le}
use Rattle.std.specs.List.{filter, find, list_any}
use Rattle.std.proofs.lemmas.Bool.{leb-true, leb-false, eq-eqb, ne_eqb, and_right}
use Rattle.std.proofs.lemmas.Bool.Decides.{nat_tests}
use Rattle.std.proofs.lemmas.List.{drop_more, drop_all}
use Rattle.stream_base.specs.declared.kept.Kept.{Kept}
use Rattle.stream_base.specs.Model.Changes.{are_same_tuples}
use Rattle.stream_base.specs.Model.Windows.{Instance, is_complete}
use Rattle.stream_base.proofs.Members.{filter_members}
use Rattle.plain_windows.specs.declared.extent.Extent.{Extent}
use Rattle.plain_windows.specs.Changing.{is_over}
use Rattle.plain_windows.proofs.Bounds.{RunOn}
use Rattle.plain_windows.proofs.Walks.{find_none}

-- what is found by a start is the one that stands there, if it ends there and is complete
abbrev pub picked : Extent → ℕ → Option Instance → Option Instance
picked e water None = None
picked e water (Some i) = cond (is_over e i && nat_le i.bound water) (Some i) None

later_differs : (low high start end : ℕ) → low < start → (eqb low start && eqb high end) ≡ false
later_differs low high start end h = grind (arith, nat_tests)

pub looked_up : (is : List Instance) (e : Extent) (water : ℕ) → RunOn is → find (is_over e) (filter (is_complete water) is) ≡ picked e water (find (λ i. nat_le e.low i.low) is)
looked_up [] e water r = refl
looked_up (x ∷ is) e water r = by (nat_le e.low x.low) refl (looked_up is e water r.1)
  where
    none_behind : e.low ≤ x.low → find (is_over e) (filter (is_complete water) is) ≡ None
    none_behind le =
        find_none (is_over e) (filter (is_complete water) is)
        (λ j c. later_differs e.low e.high j.low j.high (omega (arith, (r.0 j (filter_members (is_complete water) is j c).0).0)))

    tests : (over done : Bool) → e.low ≤ x.low → find (is_over e) (filter (is_complete water) is) ≡ None
        → is_over e x ≡ over → find (is_over e) (cond done (x ∷ filter (is_complete water) is) (filter (is_complete water) is)) ≡ cond (over && done) (Some x) None
    tests true true le none k = ap (λ b. cond b (Some x) (find (is_over e) (filter (is_complete water) is))) k
    tests false true le none k = ap (λ b. cond b (Some x) (find (is_over e) (filter (is_complete water) is))) k ∙ none
    tests true false le none k = none
    tests false false le none k = none

    before : x.low < e.low → is_over e x ≡ false
    before lt = differs e.low e.high x.low x.high lt
      where
        differs : (low high start end : ℕ) → start < low → (eqb low start && eqb high end) ≡ false
        differs low high start end h = grind (arith, nat_tests)

    skip : (done : Bool) → x.low < e.low → find (is_over e) (cond done (x ∷ filter (is_complete water) is) (filter (is_complete water) is)) ≡ find (is_over e) (filter (is_complete water) is)
    skip true lt = ap (λ b. cond b (Some x) (find (is_over e) (filter (is_complete water) is))) (before lt)
    skip false lt = refl

    by : (b : Bool) → nat_le e.low x.low ≡ b → find (is_over e) (filter (is_complete water) is) ≡ picked e water (find (λ i. nat_le e.low i.low) is)
        → find (is_over e) (filter (is_complete water) (x ∷ is)) ≡ picked e water (cond b (Some x) (find (λ i. nat_le e.low i.low) is))
    by true h later = let le : e.low ≤ x.low = leb-true e.low x.low h in tests (is_over e x) (is_complete water x) le (none_behind le) refl
    by false h later = skip (is_complete water x) (leb-false e.low x.low h) ∙ later

pub looked_up_there : (is : List Instance) (e : Extent) (water : ℕ) (i : Instance) → RunOn is → find (λ j. nat_le e.low j.low) is ≡ Some i → (is_over e i && nat_le i.bound water) ≡ true → Some i ≡ find (is_over e) (filter (is_complete water) is)
looked_up_there is e water i r f t = sym (looked_up is e water r ∙ ap (picked e water) f ∙ ap (λ b. cond b (Some i) None) t)

pub looked_up_not : (is : List Instance) (e : Extent) (water : ℕ) (i : Instance) → RunOn is → find (λ j. nat_le e.low j.low) is ≡ Some i → (is_over e i && nat_le i.bound water) ≡ false → None ≡ find (is_over e) (filter (is_complete water) is)
looked_up_not is e water i r f t = sym (looked_up is e water r ∙ ap (picked e water) f ∙ ap (λ b. cond b (Some i) None) t)

pub looked_up_nothing : (is : List Instance) (e : Extent) (water : ℕ) → RunOn is → find (λ j. nat_le e.low j.low) is ≡ None → None ≡ find (is_over e) (filter (is_complete water) is)
looked_up_nothing is e water r f = sym (looked_up is e water r ∙ ap (picked e water) f)

-- one is there where one is found, and none where none is
pub any_where_found : {X : Type 0} (p : X → Bool) (xs : List X) (x : X) → find p xs ≡ Some x → list_any p xs ≡ true
any_where_found p [] x e = cc
any_where_found p (y ∷ xs) x e = by (p y) e (λ f. any_where_found p xs x f)
  where
    by : (b : Bool) → cond b (Some y) (find p xs) ≡ Some x → (find p xs ≡ Some x → list_any p xs ≡ true) → (b || list_any p xs) ≡ true
    by true f later = refl
    by false f later = later f

pub none_where_not_found : {X : Type 0} (p : X → Bool) (xs : List X) → find p xs ≡ None → list_any p xs ≡ false
none_where_not_found p [] e = refl
none_where_not_found p (y ∷ xs) e = by (p y) e (λ f. none_where_not_found p xs f)
  where
    by : (b : Bool) → cond b (Some y) (find p xs) ≡ None → (find p xs ≡ None → list_any p xs ≡ false) → (b || list_any p xs) ≡ false
    by true f later = cc
    by false f later = later f

-- ---- the tuples of two selections, one after another
pub same_tuples_more : (xs ys : List Kept) (i : ℕ) (d : Kept) → length xs ≡ length ys → i < length xs → (get_or xs i d).position ≡ (get_or ys i d).position → are_same_tuples (drop i xs) (drop i ys) ≡ are_same_tuples (drop (i + 1) xs) (drop (i + 1) ys)
same_tuples_more xs ys i d same l e =
    (λ k. are_same_tuples (drop_more xs i d l k) (drop_more ys i d (omega arith) k))
    ∙ ap (λ b. b && are_same_tuples (drop (i + 1) xs) (drop (i + 1) ys)) (eq-eqb (get_or xs i d).position (get_or ys i d).position e)

pub same_tuples_differ : (xs ys : List Kept) (i : ℕ) (d : Kept) → length xs ≡ length ys → i < length xs → (get_or xs i d).position ≢ (get_or ys i d).position → are_same_tuples (drop i xs) (drop i ys) ≡ false
same_tuples_differ xs ys i d same l e =
    (λ k. are_same_tuples (drop_more xs i d l k) (drop_more ys i d (omega arith) k))
    ∙ ap (λ b. b && are_same_tuples (drop (i + 1) xs) (drop (i + 1) ys)) (ne_eqb (get_or xs i d).position (get_or ys i d).position e)

pub same_tuples_end : (xs ys : List Kept) (i : ℕ) → length xs ≡ length ys → length xs ≤ i → are_same_tuples (drop i xs) (drop i ys) ≡ true
same_tuples_end xs ys i same l = λ k. are_same_tuples (drop_all i xs l k) (drop_all i ys (omega arith) k)

pub same_tuples_lengths : (xs ys : List Kept) → length xs ≢ length ys → are_same_tuples xs ys ≡ false
same_tuples_lengths [] [] h = absurd (h refl)
same_tuples_lengths [] (y ∷ ys) h = refl
same_tuples_lengths (x ∷ xs) [] h = refl
same_tuples_lengths (x ∷ xs) (y ∷ ys) h = and_right (eqb x.position y.position) (are_same_tuples xs ys) (same_tuples_lengths xs ys (λ e. h (ap (λ n. suc n) e)))
