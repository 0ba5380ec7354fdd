-- What is appended so far, with the rows of those that are left, is all.
use Rattle.std.proofs.Common.{◌≡◌, ◌-◌, ◌++◌, map}
use Rattle.stream_base.specs.Model.Changes.{row_of, standing_at}
use Rattle.plain_windows.specs.Walks.{left_of}
use Rattle.plain_windows.proofs.rows.append_window.Given as goal

abbrev pub invariant-loop-extent : goal.invariant-loop-extent
invariant-loop-extent g l =
    l.out.items ++ map (row_of l.owner.place l.owner.key.now l.owner.window.func) (left_of l.owner.window.kind l.view.kept l.view.marks l.from l.view.water)
    ≡ l.initial.out.items ++ map (row_of l.owner.place l.owner.key.now l.owner.window.func) (standing_at l.owner.window l.view)

abbrev pub decreases-loop-extent : goal.decreases-loop-extent
decreases-loop-extent g l = 18446744073709551616 - l.from
