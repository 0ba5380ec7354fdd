-- The rest folded onto what is folded is the whole, and each sample so far took a step at most.
use Rattle.std.proofs.Common.{◌≡◌, ◌≤◌, ◌+◌, drop}
use Rattle.std.specs.List.{fold}
use Rattle.aggregates.specs.Bundled.{empty_bundle}
use Rattle.tail_windows.proofs.Folding.{with_sample}
use Rattle.tail_windows.proofs.select.folded.Given as goal

abbrev pub invariant-loop-s : goal.invariant-loop-s
invariant-loop-s g l = (fold with_sample l.bundle (drop l.s-index l.samples) ≡ fold with_sample empty_bundle l.samples) × (l.steps ≤ l.fn.steps + l.s-index)
