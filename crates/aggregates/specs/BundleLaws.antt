-- A bundle obeys the laws that its nine functions obey.
use Rattle.std.proofs.Common.{◌≡◌, ℤ, List, [], ◌∷◌, map, refl, lit<}
use Rattle.std.specs.Prelude.{FitsSigned, fold}
use Rattle.stream_base.specs.Model.Functions.{counting, summing, least, greatest, averaging, earliest, latest, rising, tracing}
use Rattle.std.specs.Int.{w64}
use Rattle.agg_laws.specs.Laws.{MonoidLaws, total}
use Rattle.aggregates.specs.Bundled.{Bundled, IsBundle, bundle_of, empty_bundle, bundle_of_number, bundles_combined}
use Rattle.aggregates.specs.Aggregates.{count_laws, sum_laws, least_laws, greatest_laws, mean_laws, earliest_laws, latest_laws, rises_laws, trace_laws, widened, bits_of_number}

pub bundle_laws : MonoidLaws IsBundle empty_bundle bundles_combined
bundle_laws = record {
  unit_is_value = record {
    count = count_laws.unit_is_value;
    summed = sum_laws.unit_is_value;
    lowest = least_laws.unit_is_value;
    highest = greatest_laws.unit_is_value;
    mean = mean_laws.unit_is_value;
    first = earliest_laws.unit_is_value;
    last = latest_laws.unit_is_value;
    rises = rises_laws.unit_is_value;
    trace = trace_laws.unit_is_value;
  };
  closed = λ x y hx hy. record {
    count = count_laws.closed x.count y.count hx.count hy.count;
    summed = sum_laws.closed x.summed y.summed hx.summed hy.summed;
    lowest = least_laws.closed x.lowest y.lowest hx.lowest hy.lowest;
    highest = greatest_laws.closed x.highest y.highest hx.highest hy.highest;
    mean = mean_laws.closed x.mean y.mean hx.mean hy.mean;
    first = earliest_laws.closed x.first y.first hx.first hy.first;
    last = latest_laws.closed x.last y.last hx.last hy.last;
    rises = rises_laws.closed x.rises y.rises hx.rises hy.rises;
    trace = trace_laws.closed x.trace y.trace hx.trace hy.trace;
  };
  left_unit = λ x h i. record {
    count = count_laws.left_unit x.count h.count i;
    summed = sum_laws.left_unit x.summed h.summed i;
    lowest = least_laws.left_unit x.lowest h.lowest i;
    highest = greatest_laws.left_unit x.highest h.highest i;
    mean = mean_laws.left_unit x.mean h.mean i;
    first = earliest_laws.left_unit x.first h.first i;
    last = latest_laws.left_unit x.last h.last i;
    rises = rises_laws.left_unit x.rises h.rises i;
    trace = trace_laws.left_unit x.trace h.trace i;
  };
  right_unit = λ x h i. record {
    count = count_laws.right_unit x.count h.count i;
    summed = sum_laws.right_unit x.summed h.summed i;
    lowest = least_laws.right_unit x.lowest h.lowest i;
    highest = greatest_laws.right_unit x.highest h.highest i;
    mean = mean_laws.right_unit x.mean h.mean i;
    first = earliest_laws.right_unit x.first h.first i;
    last = latest_laws.right_unit x.last h.last i;
    rises = rises_laws.right_unit x.rises h.rises i;
    trace = trace_laws.right_unit x.trace h.trace i;
  };
  assoc = λ x y z hx hy hz i. record {
    count = count_laws.assoc x.count y.count z.count hx.count hy.count hz.count i;
    summed = sum_laws.assoc x.summed y.summed z.summed hx.summed hy.summed hz.summed i;
    lowest = least_laws.assoc x.lowest y.lowest z.lowest hx.lowest hy.lowest hz.lowest i;
    highest = greatest_laws.assoc x.highest y.highest z.highest hx.highest hy.highest hz.highest i;
    mean = mean_laws.assoc x.mean y.mean z.mean hx.mean hy.mean hz.mean i;
    first = earliest_laws.assoc x.first y.first z.first hx.first hy.first hz.first i;
    last = latest_laws.assoc x.last y.last z.last hx.last hy.last hz.last i;
    rises = rises_laws.assoc x.rises y.rises z.rises hx.rises hy.rises hz.rises i;
    trace = trace_laws.assoc x.trace y.trace z.trace hx.trace hy.trace hz.trace i;
  };
}

-- the bundle of a number of 64 bits is a value
pub bundle_lifts : (v : ℤ) → FitsSigned w64 v → IsBundle (bundle_of_number v)
bundle_lifts v h = record {
  count = lit< tt;
  summed = widened v h;
  lowest = h;
  highest = h;
  mean = (widened v h, lit< tt);
  first = h;
  last = h;
  rises = (h, h, lit< tt);
  trace = (lit< tt, bits_of_number v h);
}

-- the nine functions folded from what each of them has so far
folded_from : Bundled → List ℤ → Bundled
folded_from b values = record {
  count = fold (λ a v. counting.combine a (counting.lift v)) b.count values;
  summed = fold (λ a v. summing.combine a (summing.lift v)) b.summed values;
  lowest = fold (λ a v. least.combine a (least.lift v)) b.lowest values;
  highest = fold (λ a v. greatest.combine a (greatest.lift v)) b.highest values;
  mean = fold (λ a v. averaging.combine a (averaging.lift v)) b.mean values;
  first = fold (λ a v. earliest.combine a (earliest.lift v)) b.first values;
  last = fold (λ a v. latest.combine a (latest.lift v)) b.last values;
  rises = fold (λ a v. rising.combine a (rising.lift v)) b.rises values;
  trace = fold (λ a v. tracing.combine a (tracing.lift v)) b.trace values;
}

fold_bundles : (b : Bundled) (values : List ℤ) → fold bundles_combined b (map bundle_of_number values) ≡ folded_from b values
unfolding folded_from
fold_bundles b [] = refl
fold_bundles b (v ∷ vs) = fold_bundles (bundles_combined b (bundle_of_number v)) vs

-- the bundles of values, combined in order, are the bundle of the values
pub total_of_bundles : (values : List ℤ) → total empty_bundle bundles_combined (map bundle_of_number values) ≡ bundle_of values
unfolding folded_from
total_of_bundles values = fold_bundles empty_bundle values
