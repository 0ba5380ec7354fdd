-- The run begins at this place, or before it.
use Rattle.std.proofs.Common.{◌≡◌, ◌-◌, ◌≤◌, ◌∷◌, take, drop}
use Rattle.plain_windows.specs.Runs.{runs_of}
use Rattle.plain_windows.proofs.sessions.start_of.Given as goal

abbrev pub invariant-loop-first : goal.invariant-loop-first
invariant-loop-first l = (l.first ≤ l.place) × (runs_of l.gap (drop l.first l.kept) ≡ take (l.end - l.first) (drop l.first l.kept) ∷ runs_of l.gap (drop l.end l.kept))

abbrev pub decreases-loop-first : goal.decreases-loop-first
decreases-loop-first l = l.first
