-- What stood of the groups so far is told.
use Rattle.std.proofs.Common.{◌≡◌, ◌≤◌, ◌+◌, ◌-◌, ◌*◌, ◌++◌, map, vec_len}
use Rattle.std.specs.Prelude.{◌⊎◌, vec_capacity}
use Rattle.agg_store.specs.Stored.{tuples_of}
use Rattle.time_lanes.specs.Folds.{IsShared}
use Rattle.time_lanes.specs.Told.{former_at, starts_from}
use Rattle.time_lanes.proofs.late.append_formers.Given as goal

abbrev pub invariant-loop-done : goal.invariant-loop-done
invariant-loop-done g l = record {
  told : l.into.items ≡ l.initial.into.items ++ map (former_at l.func l.span.length (tuples_of (g.S.AggStore.stored l.store))) (starts_from l.span.slide l.complete.first l.done);
  number : vec_len l.into ≡ vec_len l.initial.into + l.done;
  capacity : vec_capacity l.into ≡ vec_capacity l.initial.into;
  within : l.done ≤ l.complete.count;
  cost : l.steps ≤ l.initial.steps + 64 * ((g.S.AggStore.stored l.store).reach + 2) * l.done;
  begun : (l.done ≡ 0) ⊎ ((64 ≤ l.done) ⊎ (l.done ≡ l.complete.count));
  none : l.done ≡ 0 → l.steps ≤ l.initial.steps;
  shared : 1 ≤ l.done → l.complete.count ≤ 64 → IsShared l.span (g.S.AggStore.stored l.store).slices l.complete l.initial.steps l.steps;
}

abbrev pub decreases-loop-done : goal.decreases-loop-done
decreases-loop-done g l = l.complete.count - l.done
