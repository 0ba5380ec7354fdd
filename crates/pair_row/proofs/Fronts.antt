-- What stands of a vector behind the elements that have left.
use Rattle.std.proofs.Common.{◌≡◌, ◌≤◌, ◌+◌, ◌∙◌, ℕ, zero, suc, List, [], ◌∷◌, length, drop, arith, refl, ap, sym}
use Rattle.std.specs.List.{insert, remove}

drop-zero : {X : Type 0} (xs : List X) → drop 0 xs ≡ xs
drop-zero [] = refl
drop-zero (x ∷ xs) = refl

none_before : (at : ℕ) → 0 + at ≡ at
none_before at = omega arith

one_before : (gone at : ℕ) → suc gone + at ≡ suc (gone + at)
one_before gone at = omega arith

pub drop-insert : {X : Type 0} (gone at : ℕ) (xs : List X) (x : X) → gone ≤ length xs → drop gone (insert xs (gone + at) x) ≡ insert (drop gone xs) at x
drop-insert zero at xs x l =
    ap (λ n. drop 0 (insert xs n x)) (none_before at) ∙ drop-zero (insert xs at x) ∙ ap (λ rest. insert rest at x) (sym (drop-zero xs))
drop-insert (suc gone) at [] x l = absurd (omega arith)
drop-insert (suc gone) at (y ∷ ys) x l =
    ap (λ n. drop (suc gone) (insert (y ∷ ys) n x)) (one_before gone at) ∙ drop-insert gone at ys x (omega arith)

pub drop-remove : {X : Type 0} (gone at : ℕ) (xs : List X) → gone ≤ length xs → drop gone (remove xs (gone + at)) ≡ remove (drop gone xs) at
drop-remove zero at xs l =
    ap (λ n. drop 0 (remove xs n)) (none_before at) ∙ drop-zero (remove xs at) ∙ ap (λ rest. remove rest at) (sym (drop-zero xs))
drop-remove (suc gone) at [] l = absurd (omega arith)
drop-remove (suc gone) at (y ∷ ys) l =
    ap (λ n. drop (suc gone) (remove (y ∷ ys) n)) (one_before gone at) ∙ drop-remove gone at ys (omega arith)

next_leaves : {X : Type 0} (gone : ℕ) (xs : List X) → drop (suc gone) xs ≡ remove (drop gone xs) 0
next_leaves zero [] = refl
next_leaves zero (x ∷ xs) = refl
next_leaves (suc gone) [] = refl
next_leaves (suc gone) (x ∷ xs) = next_leaves gone xs

one_more : (gone : ℕ) → gone + 1 ≡ suc gone
one_more gone = omega arith

pub drop-first : {X : Type 0} (gone at : ℕ) (xs : List X) → at ≡ 0 → drop (gone + 1) xs ≡ remove (drop gone xs) at
drop-first gone at xs first =
    ap (λ n. drop n xs) (one_more gone) ∙ next_leaves gone xs ∙ ap (remove (drop gone xs)) (sym first)
