-- Count, sum, least and greatest of the same values, and their laws.
use Rattle.std.proofs.Common.{◌≡◌, ◌+◌, ◌%◌, ◌^◌, ℕ, ℤ, List, [], ◌∷◌, Option, None, Some, map, ap, refl, arith, lit<}
use Rattle.std.specs.Prelude.{FitsSigned, fold}
use Rattle.std.specs.Int.{w64, w128, int_min, int_max, int_wrapping_add, cast_signed, cast_unsigned}
use Rattle.std.proofs.lemmas.Int.{ints}
use Rattle.stream_base.specs.Model.Functions.{counting, summing, least, greatest, count_sum, either_or, fold_of}
use Rattle.agg_laws.specs.Laws.{MonoidLaws, total}
use Rattle.aggregates.specs.Aggregates.{count_laws, sum_laws, least_laws, greatest_laws, widened}
use Rattle.aggregates.specs.Order.{Commutes}
use Rattle.aggregates.specs.Values.{IsCount, IsSum, IsPick}

-- what a `Summary` is in contracts: what each of these functions keeps
pub record Summed : Type 0 where
  pub count : ℕ
  pub summed : ℤ
  pub range : Option ℤ × Option ℤ

-- each part is a value of its function
pub record IsSummary (s : Summed) : Type 0 where
  pub count : IsCount s.count
  pub summed : IsSum s.summed
  pub lowest : IsPick s.range.0
  pub highest : IsPick s.range.1

-- the summary of values in any order
abbrev pub summary_of : List ℤ → Summed
summary_of values = record {
  count = fold_of counting values;
  summed = fold_of summing values;
  range = (fold_of least values, fold_of greatest values);
}

-- the summary of no values
abbrev pub empty_summary : Summed
empty_summary = record { count = counting.unit; summed = summing.unit; range = (least.unit, greatest.unit) }

-- the summary of one value
abbrev pub summary_of_number : ℤ → Summed
summary_of_number v = record { count = counting.lift v; summed = summing.lift v; range = (least.lift v, greatest.lift v) }

-- each function's two results combined
abbrev pub summaries_combined : Summed → Summed → Summed
summaries_combined x y = record {
  count = counting.combine x.count y.count;
  summed = summing.combine x.summed y.summed;
  range = (least.combine x.range.0 y.range.0, greatest.combine x.range.1 y.range.1);
}

pub summary_laws : MonoidLaws IsSummary empty_summary summaries_combined
summary_laws = record {
  unit_is_value = record {
    count = count_laws.unit_is_value;
    summed = sum_laws.unit_is_value;
    lowest = least_laws.unit_is_value;
    highest = greatest_laws.unit_is_value;
  };
  closed = λ x y hx hy. record {
    count = count_laws.closed x.count y.count hx.count hy.count;
    summed = sum_laws.closed x.summed y.summed hx.summed hy.summed;
    lowest = least_laws.closed x.range.0 y.range.0 hx.lowest hy.lowest;
    highest = greatest_laws.closed x.range.1 y.range.1 hx.highest hy.highest;
  };
  left_unit = λ x h i. record {
    count = count_laws.left_unit x.count h.count i;
    summed = sum_laws.left_unit x.summed h.summed i;
    range = (least_laws.left_unit x.range.0 h.lowest i, greatest_laws.left_unit x.range.1 h.highest i);
  };
  right_unit = λ x h i. record {
    count = count_laws.right_unit x.count h.count i;
    summed = sum_laws.right_unit x.summed h.summed i;
    range = (least_laws.right_unit x.range.0 h.lowest i, greatest_laws.right_unit x.range.1 h.highest i);
  };
  assoc = λ x y z hx hy hz i. record {
    count = count_laws.assoc x.count y.count z.count hx.count hy.count hz.count i;
    summed = sum_laws.assoc x.summed y.summed z.summed hx.summed hy.summed hz.summed i;
    range = (least_laws.assoc x.range.0 y.range.0 z.range.0 hx.lowest hy.lowest hz.lowest i, greatest_laws.assoc x.range.1 y.range.1 z.range.1 hx.highest hy.highest hz.highest i);
  };
}

-- the summary of a number of 64 bits is a value
pub summary_lifts : (v : ℤ) → FitsSigned w64 v → IsSummary (summary_of_number v)
summary_lifts v h = record { count = lit< tt; summed = widened v h; lowest = h; highest = h }

count_swaps : (m n : ℕ) → count_sum m n ≡ count_sum n m
count_swaps m n = omega arith

sum_swaps : (x y : ℤ) → int_wrapping_add w128 x y ≡ int_wrapping_add w128 y x
sum_swaps x y = ap (λ n. cast_signed w128 (n % 2 ^ 128)) (let e : cast_unsigned w128 x + cast_unsigned w128 y ≡ cast_unsigned w128 y + cast_unsigned w128 x = omega arith in e)

min_swaps : (x y : ℤ) → int_min x y ≡ int_min y x
min_swaps x y = grind (arith, ints)

max_swaps : (x y : ℤ) → int_max x y ≡ int_max y x
max_swaps x y = grind (arith, ints)

either_swaps : (join : ℤ → ℤ → ℤ) → ((x y : ℤ) → join x y ≡ join y x) → (x y : Option ℤ) → either_or join x y ≡ either_or join y x
either_swaps join swaps None None = refl
either_swaps join swaps None (Some y) = refl
either_swaps join swaps (Some x) None = refl
either_swaps join swaps (Some x) (Some y) = ap Some (swaps x y)

-- order makes no difference
pub summaries_commute : Commutes IsSummary summaries_combined
summaries_commute x y hx hy i = record {
  count = count_swaps x.count y.count i;
  summed = sum_swaps x.summed y.summed i;
  range = (either_swaps int_min min_swaps x.range.0 y.range.0 i, either_swaps int_max max_swaps x.range.1 y.range.1 i);
}

-- the summaries of the values that follow others
from : Summed → List ℤ → Summed
from s values = record {
  count = fold (λ a v. counting.combine a (counting.lift v)) s.count values;
  summed = fold (λ a v. summing.combine a (summing.lift v)) s.summed values;
  range = (fold (λ a v. least.combine a (least.lift v)) s.range.0 values, fold (λ a v. greatest.combine a (greatest.lift v)) s.range.1 values);
}

fold_summaries : (s : Summed) (values : List ℤ) → fold summaries_combined s (map summary_of_number values) ≡ from s values
unfolding from
fold_summaries s [] = refl
fold_summaries s (v ∷ vs) = fold_summaries (summaries_combined s (summary_of_number v)) vs

-- the summaries of values, combined, are the summary of the values
pub total_of_summaries : (values : List ℤ) → total empty_summary summaries_combined (map summary_of_number values) ≡ summary_of values
unfolding from
total_of_summaries values = fold_summaries empty_summary values
