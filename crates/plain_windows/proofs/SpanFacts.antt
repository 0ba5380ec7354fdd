-- The first interval of a tumbling or sliding window that starts at or after a time.
use Rattle.std.proofs.Common.{◌≡◌, ◌∙◌, ℕ, ◌+◌, ◌-◌, ◌*◌, ◌/◌, ◌<◌, ◌≤◌, Bool, true, false, List, [], length, get_or, max, ap, sym, refl, subst, inl, inr, ⊎_elim, arith, None, Some}
use Rattle.std.specs.Prelude.{◌⊎◌, nat_le, nat_lt}
use Rattle.std.specs.List.{All, Contains, find}
use Rattle.std.proofs.lemmas.Bool.{ltb-true, ltb-false, leb-true, le-leb, lt-leb}
use Rattle.std.proofs.lemmas.Bool.Decides.{nat_tests}
use Rattle.std.proofs.lemmas.List.Elements.{All-contains, Contains-get_or}
use Rattle.std.proofs.lemmas.Nat.{div_below}
use Rattle.stream_base.specs.declared.kept.Kept.{Kept}
use Rattle.stream_base.specs.declared.kind.Kind.TheVariants.{Sliding}
use Rattle.stream_base.specs.Kinds.{IsKindWithin}
use Rattle.stream_base.specs.Laws.{RiseByStart, TimesDoNotFall}
use Rattle.stream_base.specs.Model.Journal.{put_in_order}
use Rattle.stream_base.specs.Model.Windows.{Instance, interval, starts_of, spans, instances_of}
use Rattle.stream_base.proofs.KindFacts.{instances_rise}
use Rattle.stream_base.proofs.Members.{Contains-insert_new, Contains-insert_old, map_members, map_has}
use Rattle.stream_base.proofs.Spans.{starts_holding_members, starts_of_members, starts_of_has, starts_of_put_cases}
use Rattle.stream_base.specs.Places.{IsPlaceOf}
use Rattle.plain_windows.specs.Changing.{HasBound}
use Rattle.plain_windows.proofs.Found.{find_first, find_none, find_agree}
use Rattle.plain_windows.proofs.PlaceFacts.{first_behind}
use Rattle.plain_windows.proofs.RankFacts.{times_mono, quotient_times, above_quotient}

-- the first multiple of the slide at or after a time
abbrev pub first_multiple : ℕ → ℕ → ℕ
first_multiple slide from = (from + slide - 1) / slide

pub spans_rise : (long slide : ℕ) (kept : List Kept) → IsKindWithin (Sliding long slide) → TimesDoNotFall kept → RiseByStart (spans long slide kept)
unfolding instances_of
spans_rise long slide kept kind times = instances_rise (Sliding long slide) kept [] kind times

module _ (long slide : ℕ) (moves : 1 ≤ slide) (overlaps : slide ≤ long) (kept : List Kept) where
  -- an interval that holds a kept tuple
  record IsSpan (i : Instance) : Type 0 where
    number : ℕ
    tuple : Kept
    has : Contains kept tuple
    is : interval (number * slide) (number * slide + long) kept ≡ i
    starts : number * slide ≤ tuple.time
    ends : tuple.time < number * slide + long

  spans_members : (i : Instance) → Contains (spans long slide kept) i → IsSpan i
  spans_members i c =
      let m : (low : ℕ) × Contains (starts_of long slide kept) low × (interval low (low + long) kept ≡ i) = map_members (λ low. interval low (low + long) kept) (starts_of long slide kept) i c in
      let s : (k : ℕ) × (x : Kept) × Contains kept x × (m.0 ≡ k * slide) × (m.0 ≤ x.time) × (x.time < m.0 + long) = starts_of_members long slide moves overlaps kept m.0 m.1 in
      record {
        number = s.0;
        tuple = s.1;
        has = s.2;
        is = ap (λ low. interval low (low + long) kept) (sym s.3) ∙ m.2;
        starts = omega (arith, s.3, s.4);
        ends = omega (arith, s.3, s.5);
      }

  spans_has : (k : ℕ) (x : Kept) → Contains kept x → k * slide ≤ x.time → x.time < k * slide + long → Contains (spans long slide kept) (interval (k * slide) (k * slide + long) kept)
  spans_has k x c low high = map_has (λ low. interval low (low + long) kept) (starts_of long slide kept) (k * slide) (starts_of_has long slide moves overlaps kept x k c low high)

  -- with a tuple more, an interval is one that there was, or holds the tuple's time and ends no earlier than the first that does
  pub span_put : (x : Kept) (first : ℕ) → first ≡ (x.time + slide - long) / slide → (i : Instance) → Contains (spans long slide (put_in_order kept x)) i → HasBound (spans long slide kept) i.bound ⊎ (first * slide + long ≤ i.bound)
  span_put x first is i c =
      let m : (low : ℕ) × Contains (starts_of long slide (put_in_order kept x)) low × (interval low (low + long) (put_in_order kept x) ≡ i) = map_members (λ low. interval low (low + long) (put_in_order kept x)) (starts_of long slide (put_in_order kept x)) i c in
      let bound : m.0 + long ≡ i.bound = ap (λ (j : Instance). j.bound) m.2 in
      ⊎_elim
      (λ old. inl (interval m.0 (m.0 + long) kept, map_has (λ low. interval low (low + long) kept) (starts_of long slide kept) m.0 old, bound))
      (λ new.
      let s : (k : ℕ) × (m.0 ≡ k * slide) × (m.0 ≤ x.time) × (x.time < m.0 + long) = starts_holding_members long slide moves overlaps x.time m.0 new in
      let below : first < s.0 + 1 = subst (λ n. n < s.0 + 1) (sym is) (div_below (x.time + slide - long) slide (s.0 + 1) moves (omega (arith, s.1, s.3))) in
      let le : first * slide ≤ s.0 * slide = times_mono first s.0 slide (omega arith) in
      inr (omega (arith, s.1, bound)))
      (starts_of_put_cases long slide kept x m.0 m.1)

  -- a multiple of the slide at or after a time is at or after the first such multiple
  multiple_late : (from k : ℕ) → from ≤ k * slide → first_multiple slide from ≤ k
  multiple_late from k le = by (nat_lt k (first_multiple slide from)) refl
    where
      by : (t : Bool) → nat_lt k (first_multiple slide from) ≡ t → first_multiple slide from ≤ k
      by true e = let early : (k + 1) * slide ≤ from + slide - 1 = quotient_times (from + slide - 1) slide (k + 1) (let l : k < first_multiple slide from = ltb-true k (first_multiple slide from) e in omega arith) in absurd (omega arith)
      by false e = ltb-false k (first_multiple slide from) e

  multiple_reaches : (from k : ℕ) → first_multiple slide from ≤ k → from ≤ k * slide
  multiple_reaches from k le = let lt : from + slide - 1 < (k + 1) * slide = above_quotient (from + slide - 1) slide k moves le in omega arith

  module _ (from place : ℕ) (times : TimesDoNotFall kept) (at : IsPlaceOf (λ (x : Kept). x.time) kept (first_multiple slide from * slide) place) where
    -- no tuple comes at or after the first multiple
    pub no_span_from : length kept ≤ place → find (λ i. nat_le from i.low) (spans long slide kept) ≡ None
    no_span_from none =
        find_none (λ i. nat_le from i.low) (spans long slide kept)
        (λ i c. let s : IsSpan i = spans_members i c in subst (λ (j : Instance). nat_le from j.low ≡ false) s.is (early s (nat_le from (s.number * slide)) refl))
      where
        early : {i : Instance} (s : IsSpan i) (t : Bool) → nat_le from (s.number * slide) ≡ t → nat_le from (s.number * slide) ≡ false
        early s true e =
            let late : first_multiple slide from ≤ s.number = multiple_late from s.number (leb-true from (s.number * slide) e) in
            let further : first_multiple slide from * slide ≤ s.number * slide = times_mono (first_multiple slide from) s.number slide late in
            let reached : first_multiple slide from * slide ≤ (s.tuple).time = omega (arith, s.starts) in
            absurd (omega (arith, (first_behind kept (first_multiple slide from * slide) place s.tuple s.tuple times at s.has reached).0))
        early s false e = e

    module _ (d : Kept) (some : place < length kept) where
      -- the time of the first tuple at or after the first multiple, the first interval that holds it, and the later of the two
      abbrev time : ℕ
      time = (get_or kept place d).time

      abbrev holding : ℕ
      holding = (time + slide - long) / slide

      abbrev pub number_from : ℕ
      number_from = max (first_multiple slide from) holding

      under_max : (a b n : ℕ) → a ≤ n → n < max a b → n < b
      under_max a b n h k = omega arith

      above_each : (a b : ℕ) → (a ≤ max a b) × (b ≤ max a b)
      above_each a b = (omega arith, omega arith)

      starts_before : number_from * slide ≤ time
      starts_before = either (nat_le (first_multiple slide from) holding) refl
        where
          either : (t : Bool) → nat_le (first_multiple slide from) holding ≡ t → number_from * slide ≤ time
          either true e =
              let is : number_from ≡ holding = grind (arith, nat_tests) in
              let le : holding * slide ≤ time + slide - long = quotient_times (time + slide - long) slide holding (omega arith) in
              rw is (omega arith)
          either false e =
              let is : number_from ≡ first_multiple slide from = grind (arith, nat_tests) in
              let le : first_multiple slide from * slide ≤ time = at.behind place d (omega arith) some in
              rw is le

      ends_behind : time < number_from * slide + long
      ends_behind =
          let lt : time + slide - long < (number_from + 1) * slide = above_quotient (time + slide - long) slide number_from moves (above_each (first_multiple slide from) holding).1 in
          omega arith

      -- an earlier interval that starts at or after the time would end before the first tuple
      early : (i : Instance) → Contains (spans long slide kept) i → i.low < number_from * slide → nat_le from i.low ≡ false
      early i c l = by (spans_members i c)
        where
          by : IsSpan i → nat_le from i.low ≡ false
          by s = each (nat_le from i.low) refl
            where
              same : s.number * slide ≡ i.low
              same = ap (λ (j : Instance). j.low) s.is

              before : (t : Bool) → nat_lt s.number number_from ≡ t → s.number < number_from
              before true e = ltb-true s.number number_from e
              before false e = let le : number_from * slide ≤ s.number * slide = times_mono number_from s.number slide (ltb-false s.number number_from e) in absurd (omega (arith, same))

              each : (t : Bool) → nat_le from i.low ≡ t → t ≡ false
              each true e =
                  let start : from ≤ s.number * slide = omega (arith, leb-true from i.low e, same) in
                  let late : first_multiple slide from ≤ s.number = multiple_late from s.number start in
                  let further : first_multiple slide from * slide ≤ s.number * slide = times_mono (first_multiple slide from) s.number slide late in
                  let reached : first_multiple slide from * slide ≤ (s.tuple).time = omega (arith, s.starts) in
                  let first : time ≤ (s.tuple).time = (first_behind kept (first_multiple slide from * slide) place d s.tuple times at s.has reached).1 in
                  let lt : s.number < number_from = before (nat_lt s.number number_from) refl in
                  let under : s.number < holding = under_max (first_multiple slide from) holding s.number late lt in
                  let past : (s.number + 1) * slide ≤ time + slide - long = quotient_times (time + slide - long) slide (s.number + 1) (omega arith) in
                  absurd (omega (arith, s.ends))
              each false e = refl

      pub first_span_from : (k : ℕ) → k ≡ number_from → RiseByStart (spans long slide kept) → find (λ i. nat_le from i.low) (spans long slide kept) ≡ Some (interval (k * slide) (k * slide + long) kept)
      first_span_from k is rise =
          find_first (λ i. nat_le from i.low) (spans long slide kept) (interval (number_from * slide) (number_from * slide + long) kept) rise
          (spans_has number_from (get_or kept place d) (Contains-get_or kept place d some) starts_before ends_behind)
          (le-leb from (number_from * slide) (multiple_reaches from number_from (above_each (first_multiple slide from) holding).0))
          early
          ∙ ap (λ n. Some (interval (n * slide) (n * slide + long) kept)) (sym is)

  -- no interval starts behind the last tuple
  pub no_span_beyond : (from most : ℕ) → All (λ x. x.time ≤ most) kept → most < from → find (λ i. nat_le from i.low) (spans long slide kept) ≡ None
  no_span_beyond from most times lt =
      find_none (λ i. nat_le from i.low) (spans long slide kept)
      (λ i c. let s : IsSpan i = spans_members i c in
      let last : (s.tuple).time ≤ most = All-contains (λ (x : Kept). x.time ≤ most) kept s.tuple times s.has in
      let early : s.number * slide < from = omega (arith, s.starts) in
      subst (λ (j : Instance). nat_le from j.low ≡ false) s.is (lt-leb from (s.number * slide) early))

  -- an interval ends after a watermark where it starts less than its length before it
  pub span_above : (water from : ℕ) → from ≡ water - (long - 1) → find (λ i. nat_lt water i.bound) (spans long slide kept) ≡ find (λ i. nat_le from i.low) (spans long slide kept)
  span_above water from is =
      find_agree (λ i. nat_lt water i.bound) (λ i. nat_le from i.low) (spans long slide kept)
      (λ i c. let s : IsSpan i = spans_members i c in
      subst (λ (j : Instance). nat_lt water j.bound ≡ nat_le from j.low) s.is (alike (s.number * slide)))
    where
      alike : (low : ℕ) → nat_lt water (low + long) ≡ nat_le from low
      alike low = grind (arith, nat_tests)

-- with a tuple more, the first interval that holds its time is there, and those that were there still are
module _ (long slide : ℕ) (moves : 1 ≤ slide) (overlaps : slide ≤ long) where
  pub holds_time : (time first : ℕ) → first ≡ (time + slide - long) / slide → (first * slide ≤ time) × (time < first * slide + long)
  holds_time time first is =
      let low : first * slide ≤ time + slide - long = quotient_times (time + slide - long) slide first (omega (arith, is)) in
      let high : time + slide - long < (first + 1) * slide = above_quotient (time + slide - long) slide first moves (omega (arith, is)) in
      (omega arith, omega arith)

  pub span_brought : (kept : List Kept) (x : Kept) (first : ℕ) → first ≡ (x.time + slide - long) / slide → HasBound (spans long slide (put_in_order kept x)) (first * slide + long)
  span_brought kept x first is =
      let later = put_in_order kept x in
      let holds = holds_time x.time first is in
      (interval (first * slide) (first * slide + long) later, spans_has long slide moves overlaps later first x (Contains-insert_new kept _ x) holds.0 holds.1, refl)

  pub span_stays : (kept : List Kept) (x : Kept) (i : Instance) → Contains (spans long slide kept) i → HasBound (spans long slide (put_in_order kept x)) i.bound
  span_stays kept x i c =
      let later = put_in_order kept x in
      let s : IsSpan long slide moves overlaps kept i = spans_members long slide moves overlaps kept i c in
      (interval (s.number * slide) (s.number * slide + long) later, spans_has long slide moves overlaps later s.number s.tuple (Contains-insert_old kept _ x s.tuple s.has) s.starts s.ends, ap (λ (j : Instance). j.bound) s.is)
