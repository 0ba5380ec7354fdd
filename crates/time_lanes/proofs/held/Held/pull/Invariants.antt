-- What is taken up so far, with the slices that are left, is all.
use Rattle.std.proofs.Common.{◌≡◌, ◌≤◌, ◌+◌, ◌-◌, ◌*◌, ◌++◌, length}
use Rattle.slice_lists.specs.Runs.{runs_within}
use Rattle.time_lanes.specs.Held.{partials_of}
use Rattle.time_lanes.proofs.held.Held.pull.Given as goal

abbrev pub invariant-loop-slice : goal.invariant-loop-slice
invariant-loop-slice g l = record {
  partials : l.self.partials ++ partials_of g.M.Partial.of_values (runs_within l.at l.to (g.S.AggStore.stored l.store).slices)
      ≡ l.initial.self.partials ++ partials_of g.M.Partial.of_values (runs_within l.initial.at l.to (g.S.AggStore.stored l.store).slices);
  to : l.self.to ≡ l.initial.self.to;
  spare : l.self.spare + length (runs_within l.initial.at l.to (g.S.AggStore.stored l.store).slices)
      ≡ l.initial.self.spare + length (runs_within l.at l.to (g.S.AggStore.stored l.store).slices);
  cost : l.steps + l.self.credit + 10 * length (runs_within l.at l.to (g.S.AggStore.stored l.store).slices)
      ≤ l.initial.steps + l.initial.self.credit + 10 * length (runs_within l.initial.at l.to (g.S.AggStore.stored l.store).slices);
}

abbrev pub decreases-loop-slice : goal.decreases-loop-slice
decreases-loop-slice g l = l.to - l.at
