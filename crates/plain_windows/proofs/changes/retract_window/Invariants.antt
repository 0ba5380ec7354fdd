-- What is appended so far, with what those that are left append, is all.
use Rattle.std.proofs.Common.{◌≡◌, ◌≤◌, ◌-◌, ◌++◌, length, vec_len}
use Rattle.std.specs.Prelude.{vec_capacity}
use Rattle.std.specs.List.{filter_map}
use Rattle.stream_base.specs.Model.Changes.{retraction, retractions, standing_at}
use Rattle.plain_windows.specs.Walks.{left_of}
use Rattle.plain_windows.proofs.changes.retract_window.Given as goal

abbrev pub invariant-loop-extent : goal.invariant-loop-extent
invariant-loop-extent g l = record {
  capacity : vec_capacity l.out ≡ vec_capacity l.initial.out;
  room : length (filter_map (retraction l.owner.place l.owner.key.now l.owner.window.func (standing_at l.owner.window l.new)) (left_of l.owner.window.kind l.old.kept l.old.marks l.from l.old.water)) ≤ vec_capacity l.out - vec_len l.out;
  all : l.out.items ++ filter_map (retraction l.owner.place l.owner.key.now l.owner.window.func (standing_at l.owner.window l.new)) (left_of l.owner.window.kind l.old.kept l.old.marks l.from l.old.water)
      ≡ l.initial.out.items ++ retractions l.owner.key.now l.old l.new (l.owner.place, l.owner.window);
}

abbrev pub decreases-loop-extent : goal.decreases-loop-extent
decreases-loop-extent g l = 18446744073709551616 - l.from
