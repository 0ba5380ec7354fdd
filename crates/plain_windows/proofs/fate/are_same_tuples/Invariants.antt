-- What is left of the two selections has the same positions exactly where they do.
use Rattle.std.proofs.Common.{◌≡◌, drop}
use Rattle.stream_base.specs.Model.Changes.{are_same_tuples}
use Rattle.plain_windows.proofs.fate.are_same_tuples.Given as goal

abbrev pub invariant-loop-i : goal.invariant-loop-i
invariant-loop-i l = are_same_tuples (drop l.i l.before) (drop l.i l.now) ≡ are_same_tuples l.before l.now
