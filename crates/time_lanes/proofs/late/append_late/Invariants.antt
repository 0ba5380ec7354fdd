-- The groups so far are told.
use Rattle.std.proofs.Common.{◌≡◌, ◌≤◌, ◌+◌, ◌-◌, ◌*◌, ◌++◌, vec_len}
use Rattle.std.specs.Prelude.{◌⊎◌, vec_capacity}
use Rattle.agg_store.specs.Stored.{tuples_of}
use Rattle.time_lanes.specs.Folds.{IsShared}
use Rattle.time_lanes.specs.Told.{starts_from, told_at, told_late}
use Rattle.time_lanes.proofs.late.append_late.Given as goal

abbrev pub invariant-loop-done : goal.invariant-loop-done
invariant-loop-done g l = record {
  told : l.out.items ≡ l.initial.out.items ++ told_late (told_at l.owner.window l.owner.key.now l.owner.func l.span.length (tuples_of (g.S.AggStore.stored l.store))) (starts_from l.span.slide l.complete.first l.done) l.formers;
  number : vec_len l.out ≡ vec_len l.initial.out + l.done;
  capacity : vec_capacity l.out ≡ vec_capacity l.initial.out;
  within : l.done ≤ l.complete.count;
  cost : l.steps ≤ l.initial.steps + 64 * ((g.S.AggStore.stored l.store).reach + 2) * l.done;
  begun : (l.done ≡ 0) ⊎ ((64 ≤ l.done) ⊎ (l.done ≡ l.complete.count));
  none : l.done ≡ 0 → l.steps ≤ l.initial.steps;
  shared : 1 ≤ l.done → l.complete.count ≤ 64 → IsShared l.span (g.S.AggStore.stored l.store).slices l.complete l.initial.steps l.steps;
}

abbrev pub decreases-loop-done : goal.decreases-loop-done
decreases-loop-done g l = l.complete.count - l.done
