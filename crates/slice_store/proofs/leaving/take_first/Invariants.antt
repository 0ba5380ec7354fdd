-- The partials of the slices so far are taken out.
use Rattle.std.proofs.Common.{◌≡◌, ◌≤◌, ◌+◌, ◌*◌, drop, map}
use Rattle.partials.specs.Apart.{KeepsRoom}
use Rattle.agg_store.specs.Stored.{partial_of}
use Rattle.slice_store.proofs.leaving.take_first.Given as goal

abbrev pub invariant-loop-at : goal.invariant-loop-at
invariant-loop-at g l = record {
  stand : l.partials.pairs ≡ map (partial_of g.M.Partial.of_values) (drop l.at l.runs.slices);
  keeps : KeepsRoom l.initial.partials l.partials;
  cost : l.steps ≤ l.initial.steps + 64 * (l.initial.partials.reach + 2) * l.at;
}
