-- Tuples in a range of times.
use Rattle.std.proofs.Common.{◌≡◌, ◌-◌, ◌<◌, ◌≤◌, ℕ, true, false, List, length, get_or, take, drop, arith, sym}
use Rattle.std.specs.Prelude.{min, nat_le, nat_lt}
use Rattle.std.proofs.lemmas.Bool.{le-leb, lt-ltb, le-ltb, lt-leb, and_from, and_left, and_right}
use Rattle.stream_base.specs.declared.kept.Kept.{Kept}
use Rattle.stream_base.specs.Model.Windows.{is_within, within}
use Rattle.stream_base.specs.Places.{IsPlaceOf}
use Rattle.slice_lists.proofs.NearFacts.{stretch}
use Rattle.slice_lists.proofs.PlaceFacts.{some_tuple}

-- they stand between the places of its ends
pub range_is : (low high : ℕ) (kept : List Kept) (first start end : ℕ) → IsPlaceOf (λ (x : Kept). x.time) kept low first → IsPlaceOf (λ (x : Kept). x.time) kept high end → start ≡ min first end → take (end - start) (drop start kept) ≡ within low high kept
range_is low high kept first start end from to e =
    sym (stretch (is_within low high) kept start end some_tuple (omega arith) to.within early inside late)
  where
    early : (k : ℕ) → k < start → is_within low high (get_or kept k some_tuple) ≡ false
    early k l = and_left (nat_le low (get_or kept k some_tuple).time) (nat_lt (get_or kept k some_tuple).time high) (lt-leb low (get_or kept k some_tuple).time (from.before k some_tuple (omega arith) (omega arith)))

    inside : (k : ℕ) → start ≤ k → k < end → is_within low high (get_or kept k some_tuple) ≡ true
    inside k l m =
        and_from (nat_le low (get_or kept k some_tuple).time) (nat_lt (get_or kept k some_tuple).time high)
        (le-leb low (get_or kept k some_tuple).time (from.behind k some_tuple (omega arith) (omega (arith, to.within))))
        (lt-ltb (get_or kept k some_tuple).time high (to.before k some_tuple (omega arith) m))

    late : (k : ℕ) → end ≤ k → k < length kept → is_within low high (get_or kept k some_tuple) ≡ false
    late k l m = and_right (nat_le low (get_or kept k some_tuple).time) (nat_lt (get_or kept k some_tuple).time high) (le-ltb (get_or kept k some_tuple).time high (to.behind k some_tuple l m))
