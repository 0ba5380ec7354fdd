-- What the fold of tuples comes to, and loops that fold a list.
use Rattle.std.proofs.Common.{◌≡◌, ◌∙◌, ◌≤◌, ◌<◌, ◌+◌, ℕ, List, [], ◌∷◌, length, get_or, drop, map, ap, sym, refl}
use Rattle.std.proofs.lemmas.List.{drop_more, drop_all}
use Rattle.std.specs.List.{fold}
use Rattle.stream_base.specs.declared.kept.Kept.{Kept}
use Rattle.aggregates.specs.Bundled.{Bundled, bundle_of, bundle_of_number, bundles_combined, empty_bundle}
use Rattle.aggregates.specs.BundleLaws.{total_of_bundles}
use Rattle.plain_windows.specs.Rows.{values_of}

-- a tuple more
abbrev pub with_tuple : Bundled → Kept → Bundled
with_tuple b x = bundles_combined b (bundle_of_number x.value)

folded_from : (b : Bundled) (tuples : List Kept) → fold with_tuple b tuples ≡ fold bundles_combined b (map bundle_of_number (values_of tuples))
folded_from b [] = refl
folded_from b (x ∷ xs) = folded_from (with_tuple b x) xs

pub folded_all : (tuples : List Kept) → fold with_tuple empty_bundle tuples ≡ bundle_of (values_of tuples)
folded_all tuples = folded_from empty_bundle tuples ∙ total_of_bundles (values_of tuples)

-- one step of a loop that folds a list
pub fold_step : {A B : Type 0} (f : B → A → B) (a b : B) (xs : List A) (i : ℕ) (d : A) → i < length xs → b ≡ f a (get_or xs i d) → fold f b (drop (i + 1) xs) ≡ fold f a (drop i xs)
fold_step f a b xs i d h e = ap (λ c. fold f c (drop (i + 1) xs)) e ∙ sym (ap (fold f a) (drop_more xs i d h))

-- the end of a loop that folds a list
pub fold_end : {A B : Type 0} (f : B → A → B) (a : B) (xs : List A) (i : ℕ) → length xs ≤ i → fold f a (drop i xs) ≡ a
fold_end f a xs i h = ap (fold f a) (drop_all i xs h)
