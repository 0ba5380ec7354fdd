-- The instances of a window run on: starts rise, bounds don't fall, and each starts at a time or a rank.
use Rattle.std.proofs.Common.{◌≡◌, ℕ, suc, ◌+◌, ◌-◌, ◌*◌, ◌/◌, ◌<◌, ◌≤◌, true, false, List, [], ◌∷◌, length, get_or, ap, refl, subst, arith}
use Rattle.std.specs.Prelude.{nat_le, nat_lt}
use Rattle.std.specs.List.{All, Contains}
use Rattle.std.specs.List.Sorted.{IsNonDecreasingBy}
use Rattle.std.proofs.lemmas.Bool.{leb-true, and_parts}
use Rattle.std.proofs.lemmas.List.Elements.{All-contains, Contains-get_or}
use Rattle.std.proofs.lemmas.Map.Keys.{sorted_tail}
use Rattle.stream_base.specs.declared.limits.TheConstants.{TIME_MAX}
use Rattle.stream_base.specs.declared.kept.Kept.{Kept}
use Rattle.stream_base.specs.declared.kind.Kind.{Kind}
use Rattle.stream_base.specs.declared.kind.Kind.TheVariants.{Events}
use Rattle.stream_base.specs.Kinds.{IsKindWithin, is_events}
use Rattle.stream_base.specs.Laws.{by_start, RiseByStart, TimesDoNotFall}
use Rattle.stream_base.specs.Model.Windows.{Instance, is_within, within, last_time, ranks, counted, instances_of}
use Rattle.stream_base.proofs.Distinct.{by_start_total, lt_from_less}
use Rattle.stream_base.proofs.EventOrder.{times_do_not_fall}
use Rattle.stream_base.proofs.Members.{filter_members}
use Rattle.stream_base.proofs.Rising.{below_tail}
use Rattle.window_laws.proofs.InstanceFacts.{last_time_at}
use Rattle.plain_windows.specs.Extents.{AreKeyLists}
use Rattle.plain_windows.proofs.PlaceFacts.{some_tuple}
use Rattle.plain_windows.proofs.RankFacts.{counted_members, run_fits}
use Rattle.stream_base.proofs.KindFacts.{instances_rise, instances_select}
use Rattle.window_laws.proofs.KindFacts.{bounds_do_not_fall, spans_hold_selections}

-- an instance and one behind it: it starts earlier, and its bound is no greater
abbrev pub IsBefore : Instance → Instance → Type 0
IsBefore i j = (i.low < j.low) × (i.bound ≤ j.bound)

abbrev pub RunOn : List Instance → Type 0
RunOn [] = Unit {0}
RunOn (i ∷ is) = ((j : Instance) → Contains is j → IsBefore i j) × RunOn is

-- bounds don't fall
abbrev BoundsRise : List Instance → Type 0
BoundsRise [] = Unit {0}
BoundsRise (i ∷ is) = ((j : Instance) → Contains is j → i.bound ≤ j.bound) × BoundsRise is

runs_on : (is : List Instance) → RiseByStart is → BoundsRise is → RunOn is
runs_on [] s h = tt
runs_on (i ∷ is) s h =
    ((λ j c. (lt_from_less i.low j.low (below_tail by_start_total i is s j c), h.0 j c)), runs_on is (sorted_tail by_start i is s) h.1)

rise_on : (is : List Instance) → IsNonDecreasingBy (λ (i : Instance). i.bound) is → BoundsRise is
rise_on [] h = tt
rise_on (i ∷ is) h = (
  (λ j c.
      let le : i.bound ≤ (get_or is c.0 j).bound = h 0 (suc c.0) j (omega arith) (omega (arith, c.1)) in
      let same : (get_or is c.0 j).bound ≡ j.bound = ap (λ (k : Instance). k.bound) c.2 in
      omega arith),
  rise_on is (λ a b d le l. h (suc a) (suc b) d (omega arith) (omega arith)),
)

-- starts rise, and bounds don't fall
pub instances_run_on : (kind : Kind) (kept : List Kept) (marks : List ℕ) → IsKindWithin kind → TimesDoNotFall kept → RunOn (instances_of kind kept marks)
instances_run_on kind kept marks k h = runs_on (instances_of kind kept marks) (instances_rise kind kept marks k h) (rise_on (instances_of kind kept marks) (bounds_do_not_fall kind kept marks k h))

-- ---- each starts at or before a kept time, or at a rank
-- one that isn't of event counts selects a kept tuple, which lies within its span
starts_by_kept : (kind : Kind) (kept : List Kept) (marks : List ℕ) → IsKindWithin kind → is_events kind ≡ false → TimesDoNotFall kept → All (λ x. x.time ≤ TIME_MAX) kept → (i : Instance) → Contains (instances_of kind kept marks) i → i.low ≤ TIME_MAX
starts_by_kept kind kept marks k e h times i c =
    let some : 1 ≤ length i.chosen = All-contains (λ (j : Instance). 1 ≤ length j.chosen) (instances_of kind kept marks) i (instances_select kind kept marks k) c in
    let held : i.chosen ≡ within i.low i.high kept = All-contains (λ (j : Instance). j.chosen ≡ within j.low j.high kept) (instances_of kind kept marks) i (spans_hold_selections kind kept marks k e h) c in
    let x : Kept = get_or i.chosen 0 some_tuple in
    let m : Contains kept x × (is_within i.low i.high x ≡ true) = filter_members (is_within i.low i.high) kept x (subst (λ l. Contains l x) held (Contains-get_or i.chosen 0 some_tuple some)) in
    let low : i.low ≤ x.time = leb-true i.low x.time (and_parts (nat_le i.low x.time) (nat_lt x.time i.high) m.1).0 in
    let t : x.time ≤ TIME_MAX = All-contains (λ (y : Kept). y.time ≤ TIME_MAX) kept x times m.0 in
    omega arith

starts_by_rank : (count : ℕ) (kept : List Kept) → 1 ≤ count → length kept ≤ TIME_MAX → (i : Instance) → Contains (counted count kept) i → i.low ≤ TIME_MAX
starts_by_rank count kept some few i c =
    let m : (n : ℕ) × (n < length kept / count) × (ranks count kept n ≡ i) = counted_members count some kept i c in
    let room : m.0 * count + count ≤ length kept = run_fits count some kept m.0 m.1 in
    let same : m.0 * count ≡ i.low = ap (λ (j : Instance). j.low) m.2 in
    omega arith

pub starts_within : (kind : Kind) (kept : List Kept) (marks : List ℕ) → IsKindWithin kind → AreKeyLists kept marks → (i : Instance) → Contains (instances_of kind kept marks) i → i.low ≤ TIME_MAX
unfolding instances_of
starts_within (Events count) kept marks k h = starts_by_rank count kept k.0 h.few
starts_within kind kept marks k h = starts_by_kept kind kept marks k refl (times_do_not_fall kept h.in_order) h.times

pub key_lists_run_on : (kind : Kind) (kept : List Kept) (marks : List ℕ) → IsKindWithin kind → AreKeyLists kept marks → RunOn (instances_of kind kept marks)
key_lists_run_on kind kept marks k h = instances_run_on kind kept marks k (times_do_not_fall kept h.in_order)

-- the last time of a list is that of one of its tuples
pub last_of : (xs : List Kept) → 1 ≤ length xs → (x : Kept) × Contains xs x × (last_time xs ≡ x.time)
last_of xs some = (get_or xs (length xs - 1) some_tuple, Contains-get_or xs (length xs - 1) some_tuple (omega arith), last_time_at xs some_tuple some)
