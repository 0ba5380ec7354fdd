-- What is appended so far, with what those that are left append, is all.
use Rattle.std.proofs.Common.{◌≡◌, ◌≤◌, ◌-◌, ◌++◌, length, vec_len}
use Rattle.std.specs.Prelude.{vec_capacity}
use Rattle.plain_windows.specs.Walks.{left_of}
use Rattle.plain_windows.proofs.Appending.{emitted}
use Rattle.plain_windows.proofs.completions.complete_window.Given as goal

abbrev pub invariant-loop-extent : goal.invariant-loop-extent
invariant-loop-extent g l = record {
  capacity : vec_capacity l.out ≡ vec_capacity l.initial.out;
  room : length (left_of l.owner.window.kind l.view.kept l.view.marks l.from l.new) ≤ vec_capacity l.out - vec_len l.out;
  all : l.out.items ++ emitted l.owner.place l.owner.key.now l.owner.window.func (left_of l.owner.window.kind l.view.kept l.view.marks l.from l.new)
      ≡ l.initial.out.items ++ emitted l.owner.place l.owner.key.now l.owner.window.func (left_of l.owner.window.kind l.view.kept l.view.marks l.initial.from l.new);
}

abbrev pub decreases-loop-extent : goal.decreases-loop-extent
decreases-loop-extent g l = 18446744073709551616 - l.from
