-- What is folded so far are the tuples so far, each of which took a step.
use Rattle.std.proofs.Common.{◌≡◌, ◌≤◌, ◌+◌, take}
use Rattle.count_shift.specs.Folded.{folded_onto}
use Rattle.count_shift.proofs.fold.fold_onto.Given as goal

abbrev pub invariant-loop-x : goal.invariant-loop-x
invariant-loop-x g l = record {
  value : l.so_far ≡ folded_onto l.fn.bundle (take l.x-index l.run);
  cost : l.steps ≤ l.initial.steps + l.x-index;
}
