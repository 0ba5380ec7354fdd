-- What is folded so far, with the tuples that are left, is all.
use Rattle.std.proofs.Common.{◌≡◌, drop}
use Rattle.std.specs.List.{fold}
use Rattle.aggregates.specs.Bundled.{empty_bundle}
use Rattle.plain_windows.proofs.Folds.{with_tuple}
use Rattle.plain_windows.proofs.fold.folded.Given as goal

abbrev pub invariant-loop-x : goal.invariant-loop-x
invariant-loop-x g l = fold with_tuple l.bundle (drop l.x-index l.tuples) ≡ fold with_tuple empty_bundle l.tuples
