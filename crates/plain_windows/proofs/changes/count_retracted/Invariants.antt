-- What is counted so far, with those that are left, is all.
use Rattle.std.proofs.Common.{◌≡◌, ◌≤◌, ◌+◌, ◌-◌, ℕ, List, length}
use Rattle.std.specs.List.{filter_map}
use Rattle.stream_base.specs.declared.limits.TheConstants.{TIME_MAX}
use Rattle.stream_base.specs.Model.Changes.{retraction, retractions, standing_at}
use Rattle.plain_windows.specs.Walks.{left_of}
use Rattle.plain_windows.proofs.changes.count_retracted.Given as goal

abbrev pub invariant-loop-extent : goal.invariant-loop-extent
invariant-loop-extent l = record {
  below : l.count ≤ l.from;
  few : l.count ≤ TIME_MAX + 1;
  all : (window : ℕ) (key : List ℕ) → l.count + length (filter_map (retraction window key l.window.func (standing_at l.window l.new)) (left_of l.window.kind l.old.kept l.old.marks l.from l.old.water))
      ≡ length (retractions key l.old l.new (window, l.window));
}

abbrev pub decreases-loop-extent : goal.decreases-loop-extent
decreases-loop-extent l = 18446744073709551616 - l.from
