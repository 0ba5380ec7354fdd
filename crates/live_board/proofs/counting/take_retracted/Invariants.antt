use Rattle.std.proofs.Common.{◌≡◌, ◌<◌, ◌+◌, ℕ, drop, length, slice_index}
use Rattle.model_laws.specs.Counts.{retracted_in}
use Rattle.live_board.proofs.counting.take_retracted.Given as goal

abbrev pub invariant-changes : goal.invariant-changes
invariant-changes l =
    (length l.counts ≡ 32)
    × ((w : ℕ) → w < 32 → slice_index l.counts w + retracted_in w l.changes ≡ slice_index l.fn.counts w + retracted_in w (drop l.at l.changes))
