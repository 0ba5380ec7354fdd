-- What is counted so far, with those that are left, is all.
use Rattle.std.proofs.Common.{◌≡◌, ◌≤◌, ◌+◌, ◌-◌, length}
use Rattle.stream_base.specs.declared.limits.TheConstants.{TIME_MAX}
use Rattle.plain_windows.specs.Walks.{left_of}
use Rattle.plain_windows.proofs.completions.count_window.Given as goal

abbrev pub invariant-loop-extent : goal.invariant-loop-extent
invariant-loop-extent l = record {
  below : l.count ≤ l.from;
  few : l.count ≤ TIME_MAX + 1;
  all : l.count + length (left_of l.window.kind l.view.kept l.view.marks l.from l.new) ≡ length (left_of l.window.kind l.view.kept l.view.marks l.initial.from l.new);
}

abbrev pub decreases-loop-extent : goal.decreases-loop-extent
decreases-loop-extent l = 18446744073709551616 - l.from
