-- A place where the test of a search turns, which holds up to a time.
use Rattle.std.proofs.Common.{◌≡◌, ◌+◌, ◌<◌, ◌≤◌, ℕ, true, false, List, arith, get_or, length}
use Rattle.std.specs.Prelude.{nat_le}
use Rattle.std.specs.List.Sorted.{IsPartitionPoint}
use Rattle.std.proofs.lemmas.Bool.{leb-false, leb-true}
use Rattle.stream_base.specs.Places.{IsPlaceOf}

-- so many elements lie at or before a time
pub place_up_to : {X : Type 0} (time_of : X → ℕ) (xs : List X) (time place : ℕ) → place ≤ length xs → IsPartitionPoint (λ y. nat_le (time_of y) time ≡ true) (λ y. nat_le (time_of y) time ≡ false) xs place → IsPlaceOf time_of xs (time + 1) place
place_up_to time_of xs time place le point = record {
  within = le;
  before = λ k d low high. (let l : time_of (get_or xs k d) ≤ time = leb-true (time_of (get_or xs k d)) time (point.0 k d low high) in omega arith);
  behind = λ k d low high. (let l : time < time_of (get_or xs k d) = leb-false (time_of (get_or xs k d)) time (point.1 k d low high) in omega arith);
}
