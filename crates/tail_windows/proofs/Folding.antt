-- What the fold of samples comes to, and loops that fold a list.
use Rattle.std.proofs.Common.{◌≡◌, ◌∙◌, ◌≤◌, ◌<◌, ◌+◌, ℕ, List, [], ◌∷◌, length, get_or, drop, map, ap, sym, refl}
use Rattle.std.proofs.lemmas.List.{drop_more, drop_all}
use Rattle.std.specs.List.{fold}
use Rattle.aggregates.specs.Bundled.{Bundled, bundle_of, bundle_of_number, bundles_combined, empty_bundle}
use Rattle.aggregates.specs.BundleLaws.{total_of_bundles}
use Rattle.tail_windows.specs.declared.sample.Sample.{Sample}

-- a sample more
abbrev pub with_sample : Bundled → Sample → Bundled
with_sample b s = bundles_combined b (bundle_of_number s.value)

folded_from : (b : Bundled) (samples : List Sample) → fold with_sample b samples ≡ fold bundles_combined b (map bundle_of_number (map (λ s. s.value) samples))
folded_from b [] = refl
folded_from b (s ∷ ss) = folded_from (with_sample b s) ss

pub folded_all : (samples : List Sample) → fold with_sample empty_bundle samples ≡ bundle_of (map (λ s. s.value) samples)
folded_all samples = folded_from empty_bundle samples ∙ total_of_bundles (map (λ s. s.value) samples)

-- one step of a loop that folds a list
pub fold_step : {A B : Type 0} (f : B → A → B) (a b : B) (xs : List A) (i : ℕ) (d : A) → i < length xs → b ≡ f a (get_or xs i d) → fold f b (drop (i + 1) xs) ≡ fold f a (drop i xs)
fold_step f a b xs i d h e = ap (λ c. fold f c (drop (i + 1) xs)) e ∙ sym (ap (fold f a) (drop_more xs i d h))

-- the end of a loop that folds a list
pub fold_end : {A B : Type 0} (f : B → A → B) (a : B) (xs : List A) (i : ℕ) → length xs ≤ i → fold f a (drop i xs) ≡ a
fold_end f a xs i h = ap (fold f a) (drop_all i xs h)
