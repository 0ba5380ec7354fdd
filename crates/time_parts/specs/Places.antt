-- The window at a place of the definitions, of the kind that a part serves.
use Rattle.std.proofs.Common.{◌≡◌, ◌∙◌, ◌<◌, ℕ, Bool, true, false, Option, Some, None, ap, length, refl, sym}
use Rattle.std.specs.List.{Contains}
use Rattle.std.specs.Option.{option_map_or}
use Rattle.std.specs.Prelude.{slice_get}
use Rattle.std.proofs.lemmas.Bool.{false≢true}
use Rattle.std.proofs.lemmas.Option.{get_or_from_slice_get, slice_get-get_or}
use Rattle.stream_base.specs.Kinds.{is_events, is_timed}
use Rattle.stream_base.specs.Limits.{Definitions}
use Rattle.stream_base.specs.declared.def.Def.{Def}
use Rattle.stream_base.specs.declared.func.Func.{Func}
use Rattle.stream_base.specs.declared.func.Func.TheVariants.{Count}
use Rattle.stream_base.specs.declared.kind.Kind.TheVariants.{Marks}
use Rattle.stream_base.proofs.KindFacts.{timed_counts_not}
use Rattle.time_lanes.specs.Spans.{IsWindowAt}
use Rattle.time_lanes.proofs.ServedFacts.{stands_among}
use Rattle.key_parts.specs.Calls.{window_at, window_kind}
use Rattle.key_parts.specs.PartLaws.{IsForServed}
use Rattle.time_parts.specs.Counted.{CountsAt}
use Rattle.time_parts.specs.Lanes.{IsTimedAt, IsTimedShown}

module _ (p : Def → Bool) (d : Definitions) (window : ℕ) where
  -- a test that the window at a place passes, it passes among the definitions
  passes_among : window < length d.windows → p (window_at d window) ≡ true → option_map_or p (slice_get d.windows window) false ≡ true
  passes_among within passes =
      ap (λ o. option_map_or p o false) (slice_get-get_or d.windows window (record { kind = Marks; func = Count }) within) ∙ passes

  -- and the other way round
  module _ (t : option_map_or p (slice_get d.windows window) false ≡ true) where
    pub found_at : IsWindowAt d.windows window (window_at d window)
    found_at = by (slice_get d.windows window) refl t
      where
        by : (o : Option Def) → slice_get d.windows window ≡ o → option_map_or p o false ≡ true → slice_get d.windows window ≡ Some (window_at d window)
        by None e t = absurd (false≢true t)
        by (Some def) e t = e ∙ ap Some (sym (get_or_from_slice_get d.windows window def (record { kind = Marks; func = Count }) e))

    pub passes_at : p (window_at d window) ≡ true
    passes_at = sym (ap (λ o. option_map_or p o false) found_at) ∙ t

    pub among : Contains d.windows (window_at d window)
    among = stands_among d.windows window (window_at d window) found_at

-- ---- a tumbling or sliding window
pub stands_at : (d : Definitions) (window : ℕ) → IsTimedAt d window → IsWindowAt d.windows window (window_at d window)
stands_at d window t = found_at (λ def. is_timed def.kind) d window t

pub timed_at : (d : Definitions) (window : ℕ) → IsTimedAt d window → is_timed (window_kind d window) ≡ true
timed_at d window t = passes_at (λ def. is_timed def.kind) d window t

pub member_at : (d : Definitions) (window : ℕ) → IsTimedAt d window → Contains d.windows (window_at d window)
member_at d window t = among (λ def. is_timed def.kind) d window t

pub timed_shown : (serves : Func → Type 0) → IsForServed is_timed serves (IsTimedShown serves)
timed_shown serves d window within timed shows = record {
  timed = passes_among (λ def. is_timed def.kind) d window within timed;
  shown = shows;
}

-- ---- a window of event counts
pub counts_shown : (serves : Func → Type 0) → IsForServed is_events serves CountsAt
counts_shown serves d window within counts shows = passes_among (λ def. is_events def.kind) d window within counts

-- it is neither tumbling nor sliding
pub counts_untimed : (d : Definitions) (window : ℕ) → CountsAt d window → is_timed (window_kind d window) ≡ true → ⊥
counts_untimed d window at timed =
    false≢true (sym (timed_counts_not (window_kind d window) timed) ∙ passes_at (λ def. is_events def.kind) d window at)
