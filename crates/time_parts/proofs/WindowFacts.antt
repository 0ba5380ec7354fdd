-- The window of a part, and the settled tuples that have left the store of its key.
use Rattle.std.proofs.Common.{◌≡◌, ◌∙◌, ℕ, ◌+◌, ◌-◌, ◌*◌, ◌/◌, ◌<◌, ◌≤◌, true, false, List, [], length, take, drop, ap, sym, refl, subst, arith, inl, inr, get_or-drop, length-drop}
use Rattle.std.specs.List.{All, Contains, slice_index_or}
use Rattle.std.proofs.lemmas.Bool.{cases_Bool, cases_lt}
use Rattle.std.proofs.lemmas.List.{take-append-drop}
use Rattle.std.proofs.lemmas.List.Elements.{All-contains, All-drop, Contains-append_left}
use Rattle.std.proofs.lemmas.List.Sorted.{IsNonDecreasingBy-drop}
use Rattle.std.proofs.lemmas.Nat.{le-div, div-add-mod', mod_below}
use Rattle.stream_base.specs.Limits.{Definitions}
use Rattle.stream_base.specs.Kinds.{IsKindWithin, length_of, slide_of}
use Rattle.stream_base.specs.declared.kept.Kept.{Kept}
use Rattle.stream_base.specs.declared.limits.TheConstants.{FINAL}
use Rattle.stream_base.specs.Model.Changes.{Moment}
use Rattle.stream_base.specs.Model.Slices.{is_settled, is_settled_in}
use Rattle.stream_base.specs.Model.Windows.{is_within, starts_holding, within}
use Rattle.stream_base.proofs.Distinct.{All_from_members}
use Rattle.stream_base.proofs.Spans.{starts_holding_members}
use Rattle.window_laws.specs.After.{at_water}
use Rattle.window_laws.specs.Positions.{AreKept, HaveDistinctPositions}
use Rattle.window_laws.specs.Settled.{MayLeave, last_end_of, without_first}
use Rattle.window_laws.specs.Walk.{next_start}
use Rattle.window_laws.proofs.LeaveFacts.{not_within}
use Rattle.stream_base.proofs.Filters.{filter_none}
use Rattle.window_laws.proofs.SettledFacts.{all_member}
use Rattle.window_laws.proofs.SettleTimes.{timed_settles}
use Rattle.window_laws.proofs.WalkFacts.{from_next}
use Rattle.time_lanes.specs.Late.{AreApartAt}
use Rattle.time_lanes.specs.Moves.{AreApartAbove}
use Rattle.time_lanes.specs.Spans.{IsSpan}
use Rattle.time_lanes.proofs.ServedFacts.{span_of_kind}
use Rattle.time_lanes.proofs.WalkFacts.{start_behind, times_mono}
use Rattle.key_parts.specs.Calls.{window_at, window_kind}
use Rattle.key_parts.specs.Moves.{SettlesUpTo}
use Rattle.time_parts.specs.Lanes.{IsTimedAt, open_from}
use Rattle.time_parts.specs.Places.{member_at, timed_at}

-- ---- the window at the place
pub within_at : (d : Definitions) (window : ℕ) → IsTimedAt d window → All (λ w. IsKindWithin w.kind) d.windows → IsKindWithin (window_kind d window)
within_at d window t kinds = All-contains (λ w. IsKindWithin w.kind) d.windows (window_at d window) kinds (member_at d window t)

pub span_at : (d : Definitions) (window : ℕ) → IsTimedAt d window → All (λ w. IsKindWithin w.kind) d.windows → IsSpan (length_of (window_kind d window)) (slide_of (window_kind d window))
span_at d window t kinds = span_of_kind (window_kind d window) (timed_at d window t) (within_at d window t kinds)

-- ---- without the first tuples of a key
apart_without : (n : ℕ) (kept : List Kept) → HaveDistinctPositions kept → HaveDistinctPositions (drop n kept)
apart_without n kept h = λ i j e less inside.
    let l : length (drop n kept) ≡ length kept - n = length-drop n kept in
    let a : slice_index_or (drop n kept) i e ≡ slice_index_or kept (n + i) e = get_or-drop n kept i e in
    let b : slice_index_or (drop n kept) j e ≡ slice_index_or kept (n + j) e = get_or-drop n kept j e in
    λ same. h (n + i) (n + j) e (omega arith) (omega arith) (ap (λ (x : Kept). x.position) (sym a) ∙ same ∙ ap (λ (x : Kept). x.position) b)

pub kept_without : (n : ℕ) (kept : List Kept) → AreKept kept → AreKept (drop n kept)
kept_without n kept h = record {
  in_order = IsNonDecreasingBy-drop (λ (x : Kept). x.time) n kept h.in_order;
  early = All-drop (λ (x : Kept). x.time < FINAL) n kept h.early;
  distinct = apart_without n kept h.distinct;
}

-- ---- what has left
module _ (d : Definitions) (window : ℕ) (m : Moment) (n : ℕ) (t : IsTimedAt d window) (may : MayLeave d m n) where
  span : IsSpan (length_of (window_kind d window)) (slide_of (window_kind d window))
  span = span_at d window t may.kinds

  -- the intervals that held it have ended by the watermark minus the lateness
  ended : (x : Kept) → Contains (take n m.kept) x → last_end_of (window_kind d window) x.time + d.lateness ≤ m.water
  ended x c =
      let inside : Contains m.kept x = subst (λ l. Contains l x) (take-append-drop n m.kept) (Contains-append_left (take n m.kept) (drop n m.kept) x c) in
      let settled : is_settled d m x ≡ true = All-contains (λ x. is_settled d m x ≡ true) (take n m.kept) x may.are_settled c in
      (timed_settles d.lateness m x (window_at d window) may.kept (within_at d window t may.kinds) (timed_at d window t) inside).0
      (all_member (is_settled_in d.lateness m x) d.windows (window_at d window) settled (member_at d window t))

  -- so it lies in no interval that ends later
  none_in : (low k : ℕ) → low ≡ k * slide_of (window_kind d window) → m.water < low + length_of (window_kind d window) + d.lateness → within low (low + length_of (window_kind d window)) (take n m.kept) ≡ []
  none_in low k is late =
      filter_none (is_within low (low + length_of (window_kind d window))) (take n m.kept)
      (All_from_members (λ x. is_within low (low + length_of (window_kind d window)) x ≡ false) (take n m.kept) (λ x c. not_within low (low + length_of (window_kind d window)) x (λ a b. not_there x c a)))
    where
      not_there : (x : Kept) → Contains (take n m.kept) x → low ≤ x.time → ⊥
      not_there x c a =
          let e : x.time / slide_of (window_kind d window) * slide_of (window_kind d window) + length_of (window_kind d window) + d.lateness ≤ m.water = ended x c in
          let q : k ≤ x.time / slide_of (window_kind d window) = le-div k x.time (slide_of (window_kind d window)) span.moves (omega (arith, is)) in
          let r : k * slide_of (window_kind d window) ≤ x.time / slide_of (window_kind d window) * slide_of (window_kind d window) = times_mono k (x.time / slide_of (window_kind d window)) (slide_of (window_kind d window)) q in
          omega (arith, is)

  pub apart_at : (time : ℕ) → m.water ≤ time + d.lateness → AreApartAt (window_kind d window) time (take n m.kept)
  apart_at time h =
      All_from_members (λ low. within low (low + length_of (window_kind d window)) (take n m.kept) ≡ []) (starts_holding (length_of (window_kind d window)) (slide_of (window_kind d window)) time)
      (λ low c. let s = starts_holding_members (length_of (window_kind d window)) (slide_of (window_kind d window)) span.moves span.overlaps time low c in none_in low s.0 s.1 (omega (arith, s.3)))

  pub apart_above : AreApartAbove (window_kind d window) m.water (take n m.kept)
  apart_above k h = none_in (k * slide_of (window_kind d window)) k refl (omega arith)

-- ---- up to when tuples are settled
module _ (length slide : ℕ) (span : IsSpan length slide) (lateness water : ℕ) where
  pub settled_is_before : (time : ℕ) → time / slide * slide + length + lateness ≤ water → time < next_start length slide (water - lateness)
  settled_is_before time h =
      let d : time / slide * slide + _ ≡ time = div-add-mod' time slide in
      let r = mod_below time slide span.moves in
      let b : time / slide * slide + slide ≤ next_start length slide (water - lateness) = start_behind length slide (time / slide) (water - lateness) span.moves (omega arith) in
      omega (arith, d, r)

  pub before_is_settled : (time : ℕ) → time < next_start length slide (water - lateness) → time / slide * slide + length + lateness ≤ water
  before_is_settled time h = elim (cases_lt (water - lateness) (time / slide * slide + length)) [
    | inl l ↦ absurd (let f : next_start length slide (water - lateness) ≤ time / slide * slide = from_next length slide span.moves span.overlaps (water - lateness) (time / slide) l in omega (arith, div-add-mod' time slide))
    | inr l ↦ omega (arith, span.moves, span.overlaps)
  ]

-- before the first interval that ends after the watermark minus the lateness
settles_up_to : (d : Definitions) (window : ℕ) (m : Moment) → IsTimedAt d window → All (λ w. IsKindWithin w.kind) d.windows → AreKept m.kept → SettlesUpTo d.lateness m (window_at d window) (open_from d window m.water)
settles_up_to d window m t kinds k = record { before = before; behind = behind }
  where
    span : IsSpan (length_of (window_kind d window)) (slide_of (window_kind d window))
    span = span_at d window t kinds

    before : (x : Kept) → Contains m.kept x → x.time < open_from d window m.water → is_settled_in d.lateness m x (window_at d window) ≡ true
    before x c l =
        (timed_settles d.lateness m x (window_at d window) k (within_at d window t kinds) (timed_at d window t) c).1
        (before_is_settled (length_of (window_kind d window)) (slide_of (window_kind d window)) span d.lateness m.water x.time l)

    behind : (x : Kept) → Contains m.kept x → open_from d window m.water ≤ x.time → is_settled_in d.lateness m x (window_at d window) ≡ false
    behind x c l = elim (cases_Bool (is_settled_in d.lateness m x (window_at d window))) [
      | inr f ↦ f
      | inl s ↦ absurd (let b : x.time < open_from d window m.water = settled_is_before (length_of (window_kind d window)) (slide_of (window_kind d window)) span d.lateness m.water x.time ((timed_settles d.lateness m x (window_at d window) k (within_at d window t kinds) (timed_at d window t) c).0 s) in omega arith)
    ]

-- at any watermark, of the tuples that are left
pub rest_settles : (d : Definitions) (window : ℕ) (m : Moment) (n water : ℕ) → IsTimedAt d window → MayLeave d m n → SettlesUpTo d.lateness (at_water (without_first n m) water) (window_at d window) (open_from d window water)
rest_settles d window m n water t may = settles_up_to d window (at_water (without_first n m) water) t may.kinds (kept_without n m.kept may.kept)
