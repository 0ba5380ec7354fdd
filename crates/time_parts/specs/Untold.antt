-- A lane need not be told of a tuple at or behind the watermark.
use Rattle.std.proofs.Common.{◌≡◌, ◌∙◌, ◌≤◌, ℕ, ℤ, false, List, arith, refl, sym}
use Rattle.std.proofs.lemmas.Bool.{false≢true}
use Rattle.stream_base.specs.Kinds.{is_events}
use Rattle.stream_base.specs.declared.def.Def.{Def}
use Rattle.window_laws.proofs.SettledFacts.{all_member}
use Rattle.stream_base.specs.declared.func.Func.{Func}
use Rattle.stream_base.specs.declared.kept.Kept.{Kept}
use Rattle.stream_base.specs.Limits.{Definitions}
use Rattle.stream_base.specs.Model.Changes.{Moment}
use Rattle.stream_base.proofs.KindFacts.{timed_counts_not}
use Rattle.window_laws.specs.After.{with_tuple}
use Rattle.agg_store.specs.Stored.{Stored}
use Rattle.time_lanes.specs.Lane.{IsSameUpTo, Laned}
use Rattle.time_lanes.proofs.StayFacts.{knows_all_stays, knows_stays, last_by, tuple_stays}
use Rattle.key_parts.specs.Calls.{window_at, window_kind}
use Rattle.key_parts.specs.Moves.{Comes, IsPutStep, IsStored}
use Rattle.key_parts.specs.Moves.Comes.{Enters, Leaves}
use Rattle.time_parts.specs.Lanes.{IsTimedAt, MissesNone, Serves}
use Rattle.time_parts.specs.Places.{member_at, stands_at, timed_at}

pub counts_not : (d : Definitions) (window : ℕ) → IsTimedAt d window → is_events (window_kind d window) ≡ false
counts_not d window t = timed_counts_not (window_kind d window) (timed_at d window t)

-- the store takes a tuple in, since this window doesn't count events
pub taken_in : (d : Definitions) (window n : ℕ) (before : Stored) (x : Kept) (more : ℕ) (after : Stored) → IsTimedAt d window → Comes d n before x more after → IsStored d before x after × (more ≡ n)
taken_in d window n before x more after t (Enters some stored) = (stored, refl)
taken_in d window n before x more after t (Leaves all none) =
    absurd (false≢true (sym (counts_not d window t) ∙ all_member (λ (w : Def). is_events w.kind) d.windows (window_at d window) all (member_at d window t)))

same_up_to : (d : Definitions) (window : ℕ) (m : Moment) (n : ℕ) (before : Stored) (x : Kept) (more : ℕ) (after : Stored) → IsTimedAt d window → IsPutStep d m n before x more after → IsSameUpTo (window_kind d window) x.time before after
same_up_to d window m n before x more after t step =
    let stored = (taken_in d window n before x more after t step.comes).0 in
    tuple_stays d.windows window (window_at d window) before step.held.may_leave.kinds (stands_at d window t) (timed_at d window t) step.store step.held.sliced after x stored.put

pub serves_with_tuple : {M : Type 0} {serves : Func → Type 0} {of_values : List ℤ → M} → (d : Definitions) (window : ℕ) (m : Moment) (n : ℕ) (before : Stored) (x : Kept) (more : ℕ) (after : Stored) (lane : Laned M) → m.water ≤ x.time → IsPutStep d m n before x more after → Serves serves of_values d window m before lane → Serves serves of_values d window (with_tuple m x) after lane
serves_with_tuple d window m n before x more after lane behind step stood = record {
  timed = stood.timed;
  shown = stood.shown;
  knows = knows_stays (window_kind d window) m.water x.time before after lane (same_up_to d window m n before x more after stood.timed step)
      (omega (arith, stood.knows.reached, last_by (window_kind d window) m.water, behind)) stood.knows;
}

pub misses_with_tuple : {M : Type 0} → (d : Definitions) (window : ℕ) (m : Moment) (n : ℕ) (before : Stored) (x : Kept) (more : ℕ) (after : Stored) (lane : Laned M) → IsTimedAt d window → m.water ≤ x.time → IsPutStep d m n before x more after → MissesNone d window m.water before lane → MissesNone d window m.water after lane
misses_with_tuple d window m n before x more after lane t behind step ahead =
    knows_all_stays (window_kind d window) m.water x.time before after lane (same_up_to d window m n before x more after t step) (omega (arith, last_by (window_kind d window) m.water, behind)) ahead
