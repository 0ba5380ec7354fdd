-- What is counted so far, with those of the windows that are left, is all.
use Rattle.std.proofs.Common.{◌≡◌, ◌≤◌, ◌+◌, ◌*◌, ℕ, List, length, drop}
use Rattle.std.specs.List.{enumerate_from, flat_map}
use Rattle.stream_base.specs.declared.limits.TheConstants.{TIME_MAX}
use Rattle.stream_base.specs.Model.Changes.{retractions}
use Rattle.plain_windows.proofs.changes.count_retractions.Given as goal

abbrev pub invariant-loop-def : goal.invariant-loop-def
invariant-loop-def l = record {
  few : l.count ≤ l.def-index * (TIME_MAX + 1);
  all : (key : List ℕ) → l.count + length (flat_map (retractions key l.old l.new) (enumerate_from l.def-index (drop l.def-index l.windows)))
      ≡ length (flat_map (retractions key l.old l.new) (enumerate_from 0 l.windows));
}
