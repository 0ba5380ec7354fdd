-- What holds of each kind of window, by its cases: a new kind adds its own here.
use Rattle.std.proofs.Common.{sym, ◌∙◌, ◌≡◌, ◌≤◌, ℕ, true, false, List, length, arith, refl, ◌+◌, ◌-◌, ◌/◌, ◌↔◌, ◌⊎◌, IsTrue, inl, inr, [], ◌∷◌, ◌++◌, ap}
use Rattle.std.proofs.lemmas.Bool.Decides.{nat_tests}
use Rattle.stream_base.specs.declared.limits.TheConstants.{TIME_MAX}
use Rattle.stream_base.proofs.Spans.{complete_spans_put}
use Rattle.std.specs.List.{filter, All, Contains, range_with_len}
use Rattle.stream_base.specs.declared.kind.Kind.{Kind}
use Rattle.stream_base.specs.declared.kind.Kind.TheVariants.{Marks, Tumbling, Sliding, Session, Events}
use Rattle.stream_base.specs.Kinds.{HasBound, is_events, is_timed, length_of, slide_of, is_session, IsKindWithin, is_kind_within, CutsBetween, cuts_between, has_bound}
use Rattle.std.proofs.lemmas.Bool.{or_left, or_right, lt-leb, leb-true, le-leb, false≢true, or_cases}
use Rattle.std.specs.Prelude.{◌⊎◌}
use Rattle.stream_base.proofs.BoundFacts.{bound_before_or_behind, bound_stays, found, no_bound_at_once, tested}
use Rattle.std.specs.List.Sorted.{IsNonDecreasingBy}
use Rattle.std.specs.Ordering.{nat_cmp}
use Rattle.std.proofs.lemmas.List.Elements.{All-filter}
use Rattle.std.proofs.lemmas.List.Kept.{IsStrictlySortedBy-filter}
use Rattle.stream_base.specs.declared.limits.TheConstants.{FINAL}
use Rattle.stream_base.specs.declared.kept.Kept.{Kept}
use Rattle.stream_base.specs.Model.Journal.{put_in_order, rising}
use Rattle.stream_base.specs.Model.Windows.{spans, Instance, starts_of, instances_of, is_complete, standing_of, within}
use Rattle.stream_base.specs.Laws.{by_start, RiseByStart}
use Rattle.stream_base.proofs.Distinct.{spans_rise, counted_rise, stretches_rise, sessions_rise}
use Rattle.stream_base.proofs.Selecting.{Chooses, counted_select, no_counted, no_stretch, ranks_choose, sessions_choose, sessions_select, spans_choose, spans_select, stretches_choose, stretches_select}

-- ---- limits
pub kind_within : (kind : Kind) → is_kind_within kind ≡ true → IsKindWithin kind
kind_within Marks h = tt
kind_within kind h = grind (arith, nat_tests)

-- ---- cuts
-- the computed test of a kind is true where the kind cuts, and only there
pub cuts_found : (kind : Kind) (low high : ℕ) → IsKindWithin kind → cuts_between kind low high ≡ true → CutsBetween kind low high
cuts_found (Tumbling length) low high within h =
    let (k, after, before) = found 0 length low high within.0 h in
    (k, inl (omega arith, omega arith))
cuts_found (Sliding length slide) low high within h =
    elim (or_cases (has_bound 0 slide low high) (has_bound length slide low high) h) [
      | inl starts ↦ (let (k, after, before) = found 0 slide low high within.2 starts in (k, inl (omega arith, omega arith)))
      | inr ends ↦ (let (k, after, before) = found length slide low high within.2 ends in (k, inr (after, before)))
    ]
cuts_found (Session gap) low high within h = leb-true gap (high - low) h
cuts_found kind low high within h = absurd (false≢true h)

pub cuts_tested : (kind : Kind) (low high : ℕ) → IsKindWithin kind → CutsBetween kind low high → cuts_between kind low high ≡ true
cuts_tested (Tumbling length) low high within (k, bound) =
    elim bound [
      | inl start ↦ tested 0 length low high within.0 (k, omega (arith, start.0), omega (arith, start.1))
      | inr end ↦ tested 0 length low high within.0 (k + 1, omega (arith, end.0), omega (arith, end.1))
    ]
cuts_tested (Sliding length slide) low high within (k, bound) =
    elim bound [
      | inl start ↦ or_left (has_bound 0 slide low high) (has_bound length slide low high) (tested 0 slide low high within.2 (k, omega (arith, start.0), omega (arith, start.1)))
      | inr end ↦ or_right (has_bound 0 slide low high) (has_bound length slide low high) (tested length slide low high within.2 (k, end.0, end.1))
    ]
cuts_tested (Session gap) low high within h = le-leb gap (high - low) h
cuts_tested kind low high within h = absurd h

pub decides : (kind : Kind) (low high : ℕ) → IsKindWithin kind → IsTrue (cuts_between kind low high) ↔ CutsBetween kind low high
decides kind low high within = (cuts_found kind low high within, cuts_tested kind low high within)

-- a kind cuts where times move apart that it cuts between
pub cuts_stay : (kind : Kind) (low high below above : ℕ) → below ≤ low → high ≤ above → cuts_between kind low high ≡ true → cuts_between kind below above ≡ true
cuts_stay (Tumbling length) low high below above a b h = bound_stays 0 length low high below above a b h
cuts_stay (Sliding length slide) low high below above a b h =
    elim (or_cases (has_bound 0 slide low high) (has_bound length slide low high) h) [
      | inl starts ↦ or_left (has_bound 0 slide below above) (has_bound length slide below above) (bound_stays 0 slide low high below above a b starts)
      | inr ends ↦ or_right (has_bound 0 slide below above) (has_bound length slide below above) (bound_stays length slide low high below above a b ends)
    ]
cuts_stay (Session gap) low high below above a b h = let g : gap ≤ high - low = leb-true gap (high - low) h in le-leb gap (above - below) (omega arith)
cuts_stay kind low high below above a b h = absurd (false≢true h)

-- and not between a time and itself
pub no_cut_at_once : (kind : Kind) (time : ℕ) → IsKindWithin kind → cuts_between kind time time ≡ false
no_cut_at_once (Tumbling length) time within = no_bound_at_once 0 length time
no_cut_at_once (Sliding length slide) time within = rw (no_bound_at_once 0 slide time) (no_bound_at_once length slide time)
no_cut_at_once (Session gap) time within = lt-leb gap (time - time) (omega (arith, within.0))
no_cut_at_once kind time within = refl

-- a cut across a time lies before it or behind it, but for a gap
pub cuts_before_or_behind : (kind : Kind) (low time high : ℕ) → is_session kind ≡ false → CutsBetween kind low high → CutsBetween kind low time ⊎ CutsBetween kind time high
cuts_before_or_behind (Tumbling length) low time high none h = bound_before_or_behind length length low time high h
cuts_before_or_behind (Sliding length slide) low time high none h = bound_before_or_behind length slide low time high h
cuts_before_or_behind (Session gap) low time high none h = absurd (false≢true (sym none))
cuts_before_or_behind kind low time high none h = absurd h

-- ---- instances
-- the starts of the instances of a window rise
pub instances_rise : (kind : Kind) (kept : List Kept) (marks : List ℕ) → IsKindWithin kind → IsNonDecreasingBy (λ (x : Kept). x.time) kept → RiseByStart (instances_of kind kept marks)
unfolding instances_of
instances_rise (Tumbling length) kept marks k h = spans_rise length length kept
instances_rise (Sliding length slide) kept marks k h = spans_rise length slide kept
instances_rise (Session gap) kept marks k h = sessions_rise gap kept k.0 h
instances_rise Marks kept marks k h = stretches_rise marks kept
instances_rise (Events count) kept marks k h = counted_rise count kept k.0

pub standing_rises : (kind : Kind) (kept : List Kept) (marks : List ℕ) (water : ℕ) → IsKindWithin kind → IsNonDecreasingBy (λ (x : Kept). x.time) kept → RiseByStart (standing_of kind kept marks water)
standing_rises kind kept marks water k h = IsStrictlySortedBy-filter by_start (is_complete water) (instances_of kind kept marks) (instances_rise kind kept marks k h)

-- nothing kept, no instance
pub no_instances : (kind : Kind) (marks : List ℕ) → instances_of kind [] marks ≡ []
unfolding instances_of
no_instances Marks marks = no_stretch (rising nat_cmp (0 ∷ marks ++ FINAL ∷ []))
no_instances (Events count) marks = no_counted count
no_instances kind marks = refl

pub nothing_stands : (kind : Kind) (marks : List ℕ) (water : ℕ) → standing_of kind [] marks water ≡ []
nothing_stands kind marks water = ap (filter (is_complete water)) (no_instances kind marks)

-- what an instance selects is kept
pub chosen_kept : (kind : Kind) (kept : List Kept) (marks : List ℕ) (i : Instance) → Contains (instances_of kind kept marks) i → Chooses kept i
unfolding instances_of
chosen_kept (Tumbling length) kept marks i c = spans_choose length length kept (starts_of length length kept) i c
chosen_kept (Sliding length slide) kept marks i c = spans_choose length slide kept (starts_of length slide kept) i c
chosen_kept (Session gap) kept marks i c = sessions_choose gap kept i c
chosen_kept Marks kept marks i c = stretches_choose marks kept i c
chosen_kept (Events count) kept marks i c = ranks_choose count kept (range_with_len 0 (length kept / count)) i c

-- each instance of a window selects a tuple
pub instances_select : (kind : Kind) (kept : List Kept) (marks : List ℕ) → IsKindWithin kind → All (λ i. 1 ≤ length i.chosen) (instances_of kind kept marks)
unfolding instances_of
instances_select (Tumbling length) kept marks k = spans_select length length kept k.0 (omega arith)
instances_select (Sliding length slide) kept marks k = spans_select length slide kept k.2 k.3
instances_select (Session gap) kept marks k = sessions_select gap kept
instances_select Marks kept marks k = stretches_select marks kept
instances_select (Events count) kept marks k = counted_select count kept k.0

pub standing_selects : (kind : Kind) (kept : List Kept) (marks : List ℕ) (water : ℕ) → IsKindWithin kind → All (λ i. 1 ≤ length i.chosen) (standing_of kind kept marks water)
standing_selects kind kept marks water k = All-filter (is_complete water) (λ i. 1 ≤ length i.chosen) (instances_of kind kept marks) (instances_select kind kept marks k)

-- ---- tumbling and sliding windows: all that is told of them goes by their length and slide
pub timed_instances : (kind : Kind) (kept : List Kept) (marks : List ℕ) → is_timed kind ≡ true → instances_of kind kept marks ≡ spans (length_of kind) (slide_of kind) kept
unfolding instances_of
timed_instances (Tumbling length) kept marks t = refl
timed_instances (Sliding length slide) kept marks t = refl
timed_instances kind kept marks t = absurd (false≢true t)

pub timed_within : (kind : Kind) → is_timed kind ≡ true → IsKindWithin kind → (1 ≤ slide_of kind) × (slide_of kind ≤ length_of kind) × (length_of kind ≤ TIME_MAX)
timed_within (Tumbling length) t k = (k.0, omega arith, k.1)
timed_within (Sliding length slide) t k = (k.2, k.3, k.1)
timed_within kind t k = absurd (false≢true t)

pub timed_cuts : (kind : Kind) (low high : ℕ) → is_timed kind ≡ true → HasBound (length_of kind) (slide_of kind) low high → CutsBetween kind low high
timed_cuts (Tumbling length) low high t h = h
timed_cuts (Sliding length slide) low high t h = h
timed_cuts kind low high t h = absurd (false≢true t)

pub timed_counts_not : (kind : Kind) → is_timed kind ≡ true → is_events kind ≡ false
timed_counts_not (Events count) t = absurd (false≢true t)
timed_counts_not kind t = refl

-- a tuple at or after the watermark leaves what stands
pub timed_stand_at_put : (kind : Kind) (kept : List Kept) (marks : List ℕ) (water : ℕ) (x : Kept) → IsKindWithin kind → is_timed kind ≡ true → water ≤ x.time → standing_of kind (put_in_order kept x) marks water ≡ standing_of kind kept marks water
timed_stand_at_put kind kept marks water x k t later =
    let w = timed_within kind t k in
    ap (filter (is_complete water)) (timed_instances kind (put_in_order kept x) marks t)
    ∙ complete_spans_put water (length_of kind) (slide_of kind) w.0 w.1 kept x later
    ∙ sym (ap (filter (is_complete water)) (timed_instances kind kept marks t))

-- and so does a mark
pub timed_stand_at_mark : (kind : Kind) (kept : List Kept) (marks others : List ℕ) (water : ℕ) → is_timed kind ≡ true → standing_of kind kept marks water ≡ standing_of kind kept others water
timed_stand_at_mark kind kept marks others water t = ap (filter (is_complete water)) (timed_instances kind kept marks t ∙ sym (timed_instances kind kept others t))
