-- What is appended, and the changes from the place on, are all the changes.
use Rattle.std.proofs.Common.{◌≡◌, ◌++◌, ◌-◌, length}
use Rattle.tail_windows.specs.Walks.{HasAppended, changes_from}
use Rattle.tail_windows.proofs.walk.append_from.Given as goal

abbrev pub invariant-loop-place : goal.invariant-loop-place
invariant-loop-place g l =
    (l.out.items ++ changes_from l.def l.key l.samples l.reach l.place ≡ l.fn.out.items ++ changes_from l.def l.key l.samples l.reach l.fn.start)
    × HasAppended l.def.count l.fn.out.items l.out.items l.fn.steps l.steps

abbrev pub decreases-loop-place : goal.decreases-loop-place
decreases-loop-place g l = length l.samples - l.place
