-- What lies before a time, and behind it.
use Rattle.std.specs.Prelude.{◌≤◌, ◌<◌, ℕ, List, [], All, length, slice_index_or}
use Rattle.stream_base.specs.declared.def.Def.{Def}
use Rattle.stream_base.specs.declared.kept.Kept.{Kept}
use Rattle.stream_base.specs.declared.limits.TheConstants.{TIME_MAX}
use Rattle.stream_base.specs.Kinds.{IsKindWithin}
use Rattle.stream_base.specs.Model.Windows.{first_time}
use Rattle.stream_base.specs.Places.{IsPlaceOf}
use Rattle.slice_lists.specs.Slices.{AreSlices}

-- so many slices begin before a time, of slices as every store has them
pub record AreBefore (slices : List (List Kept)) (time count : ℕ) : Type 0 where
  pub place : IsPlaceOf first_time slices time count
  pub holds : AreSlices slices

-- windows within their limits, a place among slices or behind them, and a time within the limit
pub record IsPlaceAt (windows : List Def) (slices : List (List Kept)) (at time : ℕ) : Type 0 where
  pub kinds : All (λ w. IsKindWithin w.kind) windows
  pub within : at ≤ length slices
  pub in_time : time ≤ TIME_MAX

-- windows within their limits, and a place from which on slices begin after a time
pub record IsPlaceBehind (windows : List Def) (slices : List (List Kept)) (at time : ℕ) : Type 0 where
  pub kinds : All (λ w. IsKindWithin w.kind) windows
  pub later : at < length slices → time < first_time (slice_index_or slices at [])
