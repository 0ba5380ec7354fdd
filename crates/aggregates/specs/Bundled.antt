-- All nine functions of the same values at once.
use Rattle.std.specs.Prelude.{ℕ, ℤ, List, Option}
use Rattle.stream_base.specs.Model.Functions.{counting, summing, least, greatest, averaging, earliest, latest, rising, tracing, fold_of}
use Rattle.aggregates.specs.Values.{IsCount, IsSum, IsPick, IsMean, IsRun, IsTrace}

-- what a `Bundle` is in contracts: what each of the nine functions keeps
pub record Bundled : Type 0 where
  pub count : ℕ
  pub summed : ℤ
  pub lowest : Option ℤ
  pub highest : Option ℤ
  pub mean : ℤ × ℕ
  pub first : Option ℤ
  pub last : Option ℤ
  pub rises : Option (ℤ × ℤ × ℕ)
  pub trace : ℕ × ℕ

-- each part is a value of its function
pub record IsBundle (b : Bundled) : Type 0 where
  pub count : IsCount b.count
  pub summed : IsSum b.summed
  pub lowest : IsPick b.lowest
  pub highest : IsPick b.highest
  pub mean : IsMean b.mean
  pub first : IsPick b.first
  pub last : IsPick b.last
  pub rises : IsRun b.rises
  pub trace : IsTrace b.trace

-- the nine functions of values in event order
abbrev pub bundle_of : List ℤ → Bundled
bundle_of values = record {
  count = fold_of counting values;
  summed = fold_of summing values;
  lowest = fold_of least values;
  highest = fold_of greatest values;
  mean = fold_of averaging values;
  first = fold_of earliest values;
  last = fold_of latest values;
  rises = fold_of rising values;
  trace = fold_of tracing values;
}

-- the nine functions of no values
abbrev pub empty_bundle : Bundled
empty_bundle = record {
  count = counting.unit;
  summed = summing.unit;
  lowest = least.unit;
  highest = greatest.unit;
  mean = averaging.unit;
  first = earliest.unit;
  last = latest.unit;
  rises = rising.unit;
  trace = tracing.unit;
}

-- the nine functions of one value
abbrev pub bundle_of_number : ℤ → Bundled
bundle_of_number v = record {
  count = counting.lift v;
  summed = summing.lift v;
  lowest = least.lift v;
  highest = greatest.lift v;
  mean = averaging.lift v;
  first = earliest.lift v;
  last = latest.lift v;
  rises = rising.lift v;
  trace = tracing.lift v;
}

-- each function's two results combined
abbrev pub bundles_combined : Bundled → Bundled → Bundled
bundles_combined x y = record {
  count = counting.combine x.count y.count;
  summed = summing.combine x.summed y.summed;
  lowest = least.combine x.lowest y.lowest;
  highest = greatest.combine x.highest y.highest;
  mean = averaging.combine x.mean y.mean;
  first = earliest.combine x.first y.first;
  last = latest.combine x.last y.last;
  rises = rising.combine x.rises y.rises;
  trace = tracing.combine x.trace y.trace;
}
