use Rattle.std.proofs.Common.{◌≡◌, ◌<◌, ◌+◌, ℕ, drop, length, slice_index}
use Rattle.model_laws.specs.Counts.{emitted_in}
use Rattle.live_board.proofs.counting.add_emitted.Given as goal

abbrev pub invariant-changes : goal.invariant-changes
invariant-changes l =
    (length l.counts ≡ 32)
    × ((w : ℕ) → w < 32 → slice_index l.counts w + emitted_in w (drop l.at l.changes) ≡ slice_index l.fn.counts w + emitted_in w l.changes)
