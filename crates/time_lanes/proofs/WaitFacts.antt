-- A lane where the watermark moves and nothing becomes complete.
use Rattle.std.proofs.Common.{◌≡◌, ◌∙◌, ℕ, ℤ, ◌+◌, ◌-◌, ◌*◌, ◌/◌, ◌<◌, ◌≤◌, true, false, List, [], ◌∷◌, length, drop, map, Option, Some, None, ap, sym, refl, subst, arith, inl, inr}
use Rattle.std.specs.Prelude.{slice_get, ◌⊎◌, ◌&&◌, nat_le, nat_lt}
use Rattle.std.specs.List.{All, Contains, slice_index_or}
use Rattle.std.specs.Option.{option_map_or}
use Rattle.std.proofs.lemmas.Bool.{and_from, cases_lt, false≢true, le-leb}
use Rattle.std.proofs.lemmas.List.{length-map, nil_from_length}
use Rattle.std.proofs.lemmas.List.Elements.{All-cons, All-contains, All-drop, All-head, All-nil, All-weaker}
use Rattle.std.proofs.lemmas.Option.{get_or_from_slice_get}
use Rattle.stream_base.specs.declared.def.Def.{Def}
use Rattle.stream_base.specs.declared.kept.Kept.{Kept}
use Rattle.stream_base.specs.Laws.{completions}
use Rattle.stream_base.specs.Kinds.{IsKindWithin, is_timed, length_of, slide_of}
use Rattle.stream_base.specs.Model.Changes.{Moment}
use Rattle.stream_base.specs.Model.Windows.{first_time, starts_of}
use Rattle.stream_base.proofs.Distinct.{All_from_members}
use Rattle.stream_base.proofs.Members.{filter_has}
use Rattle.stream_base.proofs.Rising.{none_in_nil}
use Rattle.stream_base.proofs.Spans.{starts_of_has}
use Rattle.slice_lists.specs.Runs.{AreInOrder, runs_within}
use Rattle.window_laws.specs.Walk.{next_start_of}
use Rattle.stream_base.proofs.Filters.{filter_none}
use Rattle.slice_lists.proofs.Order.{All-split}
use Rattle.window_laws.proofs.WalkFacts.{from_next}
use Rattle.slice_lists.specs.Slices.{joined}
use Rattle.agg_store.specs.Stored.{IsStore, Stored, tuples_of}
use Rattle.time_lanes.specs.Held.{partials_of}
use Rattle.time_lanes.specs.Lane.{Knows, Laned}
use Rattle.time_lanes.specs.Told.{new_at}
use Rattle.time_lanes.specs.Moves.{completed_starts}
use Rattle.time_lanes.specs.Spans.{IsSpan, IsWindowAt, is_served}
use Rattle.time_lanes.proofs.AdvanceFacts.{ends_above, last_at_most, last_rises, next_rises}
use Rattle.time_lanes.proofs.MoveFacts.{completions_told}
use Rattle.time_lanes.proofs.Ranges.{before_it, begins_in, behind_it}
use Rattle.time_lanes.proofs.ServedFacts.{span_of_kind, stands_among}

-- what holds of the times of all tuples holds of the first time of each slice
firsts : (P : ℕ → Type 0) (runs : List (List Kept)) → AreInOrder runs → All (λ (x : Kept). P x.time) (joined runs) → All (λ (run : List Kept). P (first_time run)) runs
firsts P [] o h = All-nil (λ (run : List Kept). P (first_time run))
firsts P ([] ∷ runs) o h = absurd o.0
firsts P ((x ∷ xs) ∷ runs) o h =
    let s = All-split (λ (y : Kept). P y.time) (x ∷ xs) (joined runs) h in
    All-cons (λ (run : List Kept). P (first_time run)) (x ∷ xs) runs (All-head (λ (y : Kept). P y.time) x xs s.0) (firsts P runs o.2 s.1)

none_mapped : {X Y : Type 0} (f : X → Y) (xs : List X) → map f xs ≡ [] → xs ≡ []
none_mapped f xs e = nil_from_length xs (sym (length-map xs f) ∙ ap length e)

module _ {M : Type 0} {of_values : List ℤ → M} (window : ℕ) (def : Def) (key : List ℕ) (m : Moment) (new : ℕ) (s : Stored) (lane : Laned M) (timed : is_timed def.kind ≡ true) (within : IsKindWithin def.kind) (o : IsStore s) (some : All (Contains m.kept) (tuples_of s)) (rises : m.water ≤ new) (none : completions key m new (window, def) ≡ []) (knows : Knows of_values def.kind m.water s lane) where
  span : IsSpan (length_of def.kind) (slide_of def.kind)
  span = span_of_kind def.kind timed within

  none_due : completed_starts def.kind m.kept m.water new ≡ []
  none_due =
      none_mapped (new_at window key def.func (length_of def.kind) m.kept) (completed_starts def.kind m.kept m.water new)
      (completions_told window key def m.water new [] m.kept m.marks timed span (λ k l. refl) ∙ none)

  -- where the next interval has ended by the new watermark, no tuple lies in it
  not_there : (x : Kept) → Contains m.kept x → next_start_of def.kind m.water + length_of def.kind ≤ new → next_start_of def.kind m.water ≤ x.time → x.time < lane.to → ⊥
  not_there x c ends low high =
      let len = length_of def.kind in
      let slide = slide_of def.kind in
      let k = (m.water + slide - len) / slide in
      let l : lane.to ≤ m.water = omega (arith, knows.reached, last_at_most len slide span m.water) in
      let inside : x.time < k * slide + len = omega (arith, ends_above len slide span m.water) in
      none_in_nil (k * slide)
      (subst (λ q. Contains q (k * slide)) none_due
      (filter_has (λ a. nat_le (k * slide) a && nat_le (a + len) new) (starts_of len slide m.kept) (k * slide) (starts_of_has len slide span.moves span.overlaps m.kept x k c low inside)
      (and_from (nat_le (k * slide) (k * slide)) (nat_le (k * slide + len) new) (le-leb (k * slide) (k * slide) (omega arith)) (le-leb (k * slide + len) new ends))))

  -- nor does a slice begin from there on
  none_from : next_start_of def.kind m.water + length_of def.kind ≤ new → (low : ℕ) → next_start_of def.kind m.water ≤ low → runs_within low lane.to s.slices ≡ []
  none_from ends low l =
      filter_none (begins_in low lane.to) s.slices
      (firsts (λ t. (nat_le low t && nat_lt t lane.to) ≡ false) s.slices o.slices.ordered
      (All-weaker (Contains m.kept) (λ (x : Kept). (nat_le low x.time && nat_lt x.time lane.to) ≡ false) (λ x c. out x c (cases_lt x.time low) (cases_lt x.time lane.to)) (tuples_of s) some))
    where
      out : (x : Kept) → Contains m.kept x → (x.time < low) ⊎ (low ≤ x.time) → (x.time < lane.to) ⊎ (lane.to ≤ x.time) → (nat_le low x.time && nat_lt x.time lane.to) ≡ false
      out x c (inl a) b = before_it low lane.to x.time a
      out x c (inr a) (inr b) = behind_it low lane.to x.time b
      out x c (inr a) (inl b) = absurd (not_there x c ends (omega arith) b)

  rest : runs_within (next_start_of def.kind m.water) lane.to s.slices ≡ runs_within (next_start_of def.kind new) lane.to s.slices
  rest = by (cases_lt new (next_start_of def.kind m.water + length_of def.kind))
    where
      rises_too : next_start_of def.kind m.water ≤ next_start_of def.kind new
      rises_too = next_rises (length_of def.kind) (slide_of def.kind) span m.water new rises

      by : (new < next_start_of def.kind m.water + length_of def.kind) ⊎ (next_start_of def.kind m.water + length_of def.kind ≤ new) → runs_within (next_start_of def.kind m.water) lane.to s.slices ≡ runs_within (next_start_of def.kind new) lane.to s.slices
      by (inl l) =
          let same : next_start_of def.kind new ≤ next_start_of def.kind m.water = from_next (length_of def.kind) (slide_of def.kind) span.moves span.overlaps new ((m.water + slide_of def.kind - length_of def.kind) / slide_of def.kind) l in
          ap (λ n. runs_within n lane.to s.slices) (omega (arith, same, rises_too))
      by (inr l) = none_from l (next_start_of def.kind m.water) (omega arith) ∙ sym (none_from l (next_start_of def.kind new) rises_too)

  pub knows_on : Knows of_values def.kind new s lane
  knows_on = record {
    reached = omega (arith, knows.reached, last_rises (length_of def.kind) (slide_of def.kind) span m.water new rises);
    edge = knows.edge;
    held = λ fresh. knows.held fresh ∙ ap (partials_of of_values) rest;
  }

-- ---- the window at a place
at_place : (windows : List Def) (window : ℕ) (other : Def) → is_served windows window ≡ true → IsWindowAt windows window (slice_index_or windows window other)
at_place windows window other t = by (slice_get windows window) refl t
  where
    by : (o : Option Def) → slice_get windows window ≡ o → option_map_or (λ (def : Def). is_timed def.kind) o false ≡ true → slice_get windows window ≡ Some (slice_index_or windows window other)
    by None e t = absurd (false≢true t)
    by (Some def) e t = e ∙ ap Some (sym (get_or_from_slice_get windows window def other e))

-- the same of a store that lacks some first tuples of a key
pub serves_on : {M : Type 0} {of_values : List ℤ → M} (windows : List Def) (window : ℕ) (other : Def) (key : List ℕ) (m : Moment) (n new : ℕ) (s : Stored) (lane : Laned M) → is_served windows window ≡ true → All (λ w. IsKindWithin w.kind) windows → IsStore s → tuples_of s ≡ drop n m.kept → m.water ≤ new
    → completions key m new (window, slice_index_or windows window other) ≡ [] → Knows of_values (slice_index_or windows window other).kind m.water s lane → Knows of_values (slice_index_or windows window other).kind new s lane
serves_on windows window other key m n new s lane served kinds o held rises none knows =
    let def = slice_index_or windows window other in
    let is = at_place windows window other served in
    let timed : is_timed def.kind ≡ true = sym (ap (λ o. option_map_or (λ (def : Def). is_timed def.kind) o false) is) ∙ served in
    let within : IsKindWithin def.kind = All-contains (λ w. IsKindWithin w.kind) windows def kinds (stands_among windows window def is) in
    let some : All (Contains m.kept) (tuples_of s) = subst (All (Contains m.kept)) (sym held) (All-drop (Contains m.kept) n m.kept (All_from_members (Contains m.kept) m.kept (λ x c. c))) in
    knows_on window def key m new s lane timed within o some rises none knows
