-- One more than the cuts so far, with the slices from the last tuple on, is one more than all.
use Rattle.std.proofs.Common.{◌≡◌, ◌≤◌, ◌+◌, ◌-◌, length, drop}
use Rattle.stream_base.specs.Model.Slices.{runs_of}
use Rattle.plain_windows.proofs.slices.count_slices.Given as goal

abbrev pub invariant-loop-place : goal.invariant-loop-place
invariant-loop-place l = record {
  few : l.count ≤ l.place;
  all : l.count + length (runs_of l.defs.windows l.view.marks (drop (l.place - 1) l.kept)) ≡ length (runs_of l.defs.windows l.view.marks l.kept) + 1;
}
