-- What is counted so far, with those that are left, is all.
use Rattle.std.proofs.Common.{◌≡◌, ◌≤◌, ◌+◌, ◌-◌, ℕ, List, length}
use Rattle.std.specs.List.{filter_map}
use Rattle.stream_base.specs.declared.limits.TheConstants.{TIME_MAX}
use Rattle.stream_base.specs.Model.Changes.{emission, emissions, standing_at}
use Rattle.plain_windows.specs.Walks.{left_of}
use Rattle.plain_windows.proofs.changes.count_emitted.Given as goal

abbrev pub invariant-loop-extent : goal.invariant-loop-extent
invariant-loop-extent l = record {
  below : l.count ≤ l.from;
  few : l.count ≤ TIME_MAX + 1;
  all : (window : ℕ) (key : List ℕ) → l.count + length (filter_map (emission window key l.window.func (standing_at l.window l.old)) (left_of l.window.kind l.new.kept l.new.marks l.from l.new.water))
      ≡ length (emissions key l.old l.new (window, l.window));
}

abbrev pub decreases-loop-extent : goal.decreases-loop-extent
decreases-loop-extent l = 18446744073709551616 - l.from
