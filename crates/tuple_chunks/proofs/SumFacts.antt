-- Sums of tuples, one behind the other.
use Rattle.std.proofs.Common.{◌≡◌, ◌∙◌, ℤ, ◌<◌, List, [], ◌∷◌, ◌++◌, Option, None, Some, true, length, length-append, ap, arith, refl, subst, sym}
use Rattle.std.specs.Prelude.{FitsSigned, is_some}
use Rattle.std.specs.Int.{w64}
use Rattle.std.specs.List.{All}
use Rattle.std.proofs.lemmas.List.{append-nil, map-append}
use Rattle.std.proofs.lemmas.List.Elements.{All-append, All-map, All-nil}
use Rattle.stream_base.specs.declared.kept.Kept.{Kept}
use Rattle.aggregates.specs.Bundled.{Bundled, bundle_of, empty_bundle}
use Rattle.slice_lists.specs.Slices.{slice_of, values_of}
use Rattle.tuple_chunks.specs.Sums.{IsKeptSum, IsSum, number_in, shown_joined, shown_of, sum_of}
use Rattle.tuple_chunks.proofs.TimeFacts.{last_of_append}

pub some_sum : (xs : List Kept) → 0 < length xs → sum_of xs ≡ Some (bundle_of (values_of xs))
some_sum [] l = absurd (omega arith)
some_sum (x ∷ xs) l = refl

pub some_shown : (xs : List Kept) → 0 < length xs → shown_of xs ≡ Some (slice_of xs)
some_shown [] l = absurd (omega arith)
some_shown (x ∷ xs) l = refl

same_value : {M : Type 0} (x y : M) → Some x ≡ Some y → x ≡ y
same_value x y e = cc

none : {M : Type 0} (x : M) → Some x ≡ None → ⊥
none x e = cc

pub both_sums : (l r b : Bundled) → ((us vs : List ℤ) → All (FitsSigned w64) us → All (FitsSigned w64) vs → l ≡ bundle_of us → r ≡ bundle_of vs → b ≡ bundle_of (us ++ vs)) → (xs ys : List Kept) → IsSum (Some l) xs → IsSum (Some r) ys → IsSum (Some b) (xs ++ ys)
both_sums l r b join [] ys h k = absurd (none l h.value)
both_sums l r b join (x ∷ xs) [] h k = absurd (none r k.value)
both_sums l r b join (x ∷ xs) (y ∷ ys) h k =
    let left = same_value l (bundle_of (values_of (x ∷ xs))) h.value in
    let right = same_value r (bundle_of (values_of (y ∷ ys))) k.value in
    let fit = λ (zs : List Kept) (a : All (λ (z : Kept). FitsSigned w64 z.value) zs). All-map (FitsSigned w64) (λ (z : Kept). z.value) zs a in
    record {
      value = ap Some (join (values_of (x ∷ xs)) (values_of (y ∷ ys)) (fit (x ∷ xs) h.fit) (fit (y ∷ ys) k.fit) left right ∙ ap bundle_of (sym (map-append (λ (z : Kept). z.value) (x ∷ xs) (y ∷ ys))));
      fit = All-append (λ z. FitsSigned w64 z.value) (x ∷ xs) (y ∷ ys) h.fit k.fit;
    }

-- a sum that is kept, and one that is to be
pub kept_is_sum : (sum : Option Bundled) (xs : List Kept) → is_some sum ≡ true → IsKeptSum sum xs → IsSum sum xs
kept_is_sum None xs e h = absurd cc
kept_is_sum (Some b) xs e h = h

pub sum_is_kept : (sum : Option Bundled) (xs : List Kept) → IsSum sum xs → IsKeptSum sum xs
sum_is_kept None xs h = tt
sum_is_kept (Some b) xs h = h

-- as many show as there are
pub shown_number : (xs : List Kept) → number_in (shown_of xs) ≡ length xs
shown_number [] = refl
shown_number (x ∷ xs) = refl

pub both_shown : (xs ys : List Kept) → shown_joined (shown_of xs) (shown_of ys) ≡ shown_of (xs ++ ys)
both_shown [] ys = refl
both_shown (x ∷ xs) [] = ap (λ l. shown_of (x ∷ l)) (sym (append-nil xs))
both_shown (x ∷ xs) (y ∷ ys) =
    let last = last_of_append (x ∷ xs) (y ∷ ys) (omega arith) in
    let number = length-append (x ∷ xs) (y ∷ ys) in
    λ i. Some (record { low = x.time; high = sym last i; number = sym number i })

pub no_sum : (xs : List Kept) → xs ≡ [] → IsSum None xs
no_sum xs e = subst (IsSum None) (sym e) (record { value = refl; fit = All-nil (λ x. FitsSigned w64 x.value) })

-- one value at least, or none
pub unit_or_sum : (sum : Option Bundled) (b : Bundled) → (sum ≡ None → b ≡ empty_bundle) → ((c : Bundled) → sum ≡ Some c → b ≡ c) → (xs : List Kept) → IsSum sum xs → b ≡ bundle_of (values_of xs)
unit_or_sum sum b none some [] h = none h.value
unit_or_sum sum b none some (x ∷ xs) h = some (bundle_of (values_of (x ∷ xs))) h.value
