-- The rows so far, and those of the entries that are left, are all.
use Rattle.std.proofs.Common.{◌≡◌, ◌++◌}
use Rattle.standing_rows.specs.Placed.{rows_of}
use Rattle.standing_rows.proofs.standing.StandingRows.rows.Given as goal

abbrev pub invariant-loop-place : goal.invariant-loop-place
invariant-loop-place l = l.rows.items ++ rows_of l.place-iterator ≡ l.self
