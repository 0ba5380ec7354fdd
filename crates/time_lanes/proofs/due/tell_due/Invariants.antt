-- What is told so far, with the intervals that are left, is all; so are the slices that are taken up.
use Rattle.std.proofs.Common.{◌≡◌, ◌≤◌, ◌+◌, ◌-◌, ◌*◌, ◌++◌, ℕ, length, map, max, vec_len}
use Rattle.std.specs.Prelude.{vec_capacity}
use Rattle.stream_base.specs.declared.limits.TheConstants.{FINAL}
use Rattle.slice_lists.specs.Runs.{runs_within}
use Rattle.window_laws.specs.Walk.{due_from, next_start}
use Rattle.agg_store.specs.Stored.{tuples_of}
use Rattle.time_lanes.specs.Held.{HoldsFrom}
use Rattle.time_lanes.specs.Told.{new_at}
use Rattle.time_lanes.specs.Spans.{last_end}
use Rattle.time_lanes.proofs.due.tell_due.Given as goal

abbrev pub invariant-loop-low : goal.invariant-loop-low
invariant-loop-low g l = record {
  told : HoldsFrom g.M.Partial.of_values l.from (g.S.AggStore.stored l.store) l.initial.held → l.initial.held.to ≤ l.from + l.span.length
      → l.out.items ++ map (new_at l.owner.window l.owner.key.now l.owner.func l.span.length (tuples_of (g.S.AggStore.stored l.store))) (due_from l.span.length l.span.slide (tuples_of (g.S.AggStore.stored l.store)) l.start l.new)
      ≡ l.initial.out.items ++ map (new_at l.owner.window l.owner.key.now l.owner.func l.span.length (tuples_of (g.S.AggStore.stored l.store))) (due_from l.span.length l.span.slide (tuples_of (g.S.AggStore.stored l.store)) l.from l.new);
  held : HoldsFrom g.M.Partial.of_values l.from (g.S.AggStore.stored l.store) l.initial.held → HoldsFrom g.M.Partial.of_values l.start (g.S.AggStore.stored l.store) l.held;
  short : l.initial.held.to ≤ l.from + l.span.length → l.held.to ≤ l.start + l.span.length;
  onward : l.from ≤ l.start;
  within : l.start ≤ max l.from (next_start l.span.length l.span.slide l.new);
  early : l.start ≤ FINAL;
  multiple : (k : ℕ) × (l.start ≡ k * l.span.slide);
  to : l.held.to ≤ max l.initial.held.to (last_end l.span.length l.span.slide l.new);
  number : vec_len l.out + length (due_from l.span.length l.span.slide (tuples_of (g.S.AggStore.stored l.store)) l.start l.new)
      ≡ vec_len l.initial.out + length (due_from l.span.length l.span.slide (tuples_of (g.S.AggStore.stored l.store)) l.from l.new);
  capacity : vec_capacity l.out ≡ vec_capacity l.initial.out;
  room : l.initial.held.spare + length (runs_within (max l.start l.held.to) (last_end l.span.length l.span.slide l.new) (g.S.AggStore.stored l.store).slices)
      ≤ l.held.spare + length (runs_within (max l.from l.initial.held.to) (last_end l.span.length l.span.slide l.new) (g.S.AggStore.stored l.store).slices);
  cost : l.steps + l.held.credit + 10 * length (runs_within (max l.start l.held.to) (last_end l.span.length l.span.slide l.new) (g.S.AggStore.stored l.store).slices)
      + length (due_from l.span.length l.span.slide (tuples_of (g.S.AggStore.stored l.store)) l.start l.new)
      ≤ l.initial.steps + l.initial.held.credit + 10 * length (runs_within (max l.from l.initial.held.to) (last_end l.span.length l.span.slide l.new) (g.S.AggStore.stored l.store).slices)
      + length (due_from l.span.length l.span.slide (tuples_of (g.S.AggStore.stored l.store)) l.from l.new);
}

abbrev pub decreases-loop-low : goal.decreases-loop-low
decreases-loop-low g l = FINAL - l.start
