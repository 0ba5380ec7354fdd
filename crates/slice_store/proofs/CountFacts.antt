-- How many slices there are at most: each ends at a later time than the one before it.
use Rattle.std.proofs.Common.{ℕ, ◌+◌, ◌^◌, ◌<◌, ◌≤◌, List, [], ◌∷◌, length, arith}
use Rattle.std.specs.List.{All}
use Rattle.std.proofs.lemmas.List.Elements.{All-head, All-tail}
use Rattle.stream_base.specs.declared.kept.Kept.{Kept}
use Rattle.stream_base.specs.declared.limits.TheConstants.{TIME_MAX}
use Rattle.stream_base.specs.Model.Windows.{first_time, last_time}
use Rattle.slice_lists.specs.Runs.{AreInOrder}
use Rattle.slice_lists.specs.Slices.{AreSlices}
use Rattle.slice_lists.proofs.SliceFacts.{all_end}
use Rattle.slice_lists.proofs.SliceOrder.{first_below_last}

ends_rise : (n : ℕ) (run : List Kept) (runs : List (List Kept)) → AreInOrder (run ∷ runs) → All (λ r. last_time r ≤ TIME_MAX) (run ∷ runs) → n ≤ last_time run → n + length runs ≤ TIME_MAX
ends_rise n run [] o ends l = omega (arith, All-head (λ r. last_time r ≤ TIME_MAX) run [] ends)
ends_rise n run (next ∷ runs) o ends l =
    let later : last_time run < first_time next = o.1 in
    let inside : first_time next ≤ last_time next = first_below_last next o.2.0 in
    omega (arith, ends_rise (n + 1) next runs o.2 (All-tail (λ r. last_time r ≤ TIME_MAX) run (next ∷ runs) ends) (omega arith))

-- so few that 64 bits count them
pub few_slices : (runs : List (List Kept)) → AreSlices runs → length runs < 2 ^ 64
few_slices [] h = omega arith
few_slices (run ∷ runs) h = omega (arith, ends_rise 0 run runs h.ordered (all_end (run ∷ runs) h) (omega arith))
