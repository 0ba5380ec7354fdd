-- From where the intervals of a span may be walked over and folded.
use Rattle.std.specs.Prelude.{◌≡◌, ◌≤◌, ◌<◌, ◌+◌, ◌*◌, ℕ, List}
use Rattle.stream_base.specs.declared.def.Def.{Def}
use Rattle.stream_base.specs.declared.kept.Kept.{Kept}
use Rattle.stream_base.specs.declared.limits.TheConstants.{FINAL, TIME_MAX}
use Rattle.agg_store.specs.Stored.{Stored}
use Rattle.time_lanes.specs.Spans.{ArePartedAt, IsServedOver}
use Rattle.time_lanes.specs.declared.late.Complete.{Complete}
use Rattle.time_lanes.specs.declared.span.Span.{Span}

-- no slice has tuples on both sides of a bound of the span's intervals, and one of these starts here
pub record StartsAt (span : Span) (slices : List (List Kept)) (low : ℕ) : Type 0 where
  pub parted : ArePartedAt span.length span.slide slices
  pub multiple : (k : ℕ) × (low ≡ k * span.slide)
  pub early : low ≤ FINAL

-- a walk may go from the start of an interval up to a watermark
pub record MayWalk (span : Span) (slices : List (List Kept)) (from water : ℕ) : Type 0 where
  pub parted : ArePartedAt span.length span.slide slices
  pub multiple : (k : ℕ) × (from ≡ k * span.slide)
  pub early : from ≤ FINAL
  pub new : water ≤ FINAL

-- no slice has tuples on both sides of a bound of the span's intervals, and each of these complete ones starts at a time
pub record MayFold (span : Span) (slices : List (List Kept)) (complete : Complete) : Type 0 where
  pub parted : ArePartedAt span.length span.slide slices
  pub early : (k : ℕ) → k < complete.count → (complete.first + k) * span.slide ≤ TIME_MAX

-- at the bounds of a span's intervals the slices part of every store over which the window at a place is served
abbrev pub PartsStores : List Def → ℕ → Span → Type 0
PartsStores windows window span =
    (s : Stored) → IsServedOver windows window s → ArePartedAt span.length span.slide s.slices
