-- What bundles of values come to.
use Rattle.std.proofs.Common.{◌≡◌, ◌∙◌, ℤ, List, [], ◌∷◌, ◌++◌, map, sym, ap, subst}
use Rattle.std.specs.Prelude.{FitsSigned}
use Rattle.std.specs.Int.{w64}
use Rattle.std.specs.List.{All}
use Rattle.std.proofs.lemmas.List.{map-append}
use Rattle.std.proofs.lemmas.List.Elements.{All-map, All-weaker}
use Rattle.agg_laws.specs.Laws.{total}
use Rattle.aggregates.specs.Bundled.{Bundled, IsBundle, bundle_of, bundle_of_number, empty_bundle, bundles_combined}
use Rattle.aggregates.specs.BundleLaws.{bundle_laws, bundle_lifts, total_of_bundles}
use Rattle.agg_laws.proofs.Totals.{total-append, total_is_value}

are_values : (values : List ℤ) → All (FitsSigned w64) values → All IsBundle (map bundle_of_number values)
are_values values h =
    All-map IsBundle bundle_of_number values (All-weaker (FitsSigned w64) (λ v. IsBundle (bundle_of_number v)) bundle_lifts values h)

-- the bundle of numbers of 64 bits is a value
pub bundle_is_value : (values : List ℤ) → All (FitsSigned w64) values → IsBundle (bundle_of values)
bundle_is_value values h =
    subst IsBundle (total_of_bundles values) (total_is_value bundle_laws (map bundle_of_number values) (are_values values h))

-- the bundles of two lists, combined, are the bundle of both lists together
pub bundle_of-append : (xs ys : List ℤ) → All (FitsSigned w64) xs → All (FitsSigned w64) ys → bundles_combined (bundle_of xs) (bundle_of ys) ≡ bundle_of (xs ++ ys)
bundle_of-append xs ys hx hy =
    ap (λ b. bundles_combined b (bundle_of ys)) (sym (total_of_bundles xs)) ∙ ap (λ b. bundles_combined (total empty_bundle bundles_combined (map bundle_of_number xs)) b) (sym (total_of_bundles ys)) ∙ sym (total-append bundle_laws (map bundle_of_number xs) (map bundle_of_number ys) (are_values xs hx) (are_values ys hy)) ∙ ap (λ bs. total empty_bundle bundles_combined bs) (sym (map-append bundle_of_number xs ys)) ∙ total_of_bundles (xs ++ ys)

-- the bundle of one number
pub bundle_of_one : (v : ℤ) → FitsSigned w64 v → bundle_of (v ∷ []) ≡ bundle_of_number v
bundle_of_one v h = bundle_laws.left_unit (bundle_of_number v) (bundle_lifts v h)

-- what combines the bundles of two lists is the bundle of both lists together
pub joined_bundles : (b x y : Bundled) → b ≡ bundles_combined x y → (xs ys : List ℤ) → All (FitsSigned w64) xs → All (FitsSigned w64) ys → x ≡ bundle_of xs → y ≡ bundle_of ys → b ≡ bundle_of (xs ++ ys)
joined_bundles b x y e xs ys hx hy ex ey =
    e ∙ ap (λ l. bundles_combined l y) ex ∙ ap (bundles_combined (bundle_of xs)) ey ∙ bundle_of-append xs ys hx hy

-- what is one number's bundle is the bundle of the list that has this number alone
pub lifted_bundle : (b : Bundled) (v : ℤ) → b ≡ bundle_of_number v → FitsSigned w64 v → b ≡ bundle_of (v ∷ [])
lifted_bundle b v e h = e ∙ sym (bundle_of_one v h)
