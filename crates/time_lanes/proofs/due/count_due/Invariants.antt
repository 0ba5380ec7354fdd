-- What is counted so far, with the intervals that are left, is all.
use Rattle.std.proofs.Common.{◌≡◌, ◌≤◌, ◌+◌, ◌-◌, ◌*◌, ℕ, length}
use Rattle.stream_base.specs.declared.limits.TheConstants.{FINAL}
use Rattle.window_laws.specs.Walk.{due_from}
use Rattle.agg_store.specs.Stored.{tuples_of}
use Rattle.time_lanes.proofs.due.count_due.Given as goal

abbrev pub invariant-loop-low : goal.invariant-loop-low
invariant-loop-low g l = record {
  all : l.count + length (due_from l.span.length l.span.slide (tuples_of (g.S.AggStore.stored l.store)) l.start l.new) ≡ length (due_from l.span.length l.span.slide (tuples_of (g.S.AggStore.stored l.store)) l.initial.start l.new);
  few : l.count ≤ l.start;
  early : l.start ≤ FINAL;
  multiple : (k : ℕ) × (l.start ≡ k * l.span.slide);
}

abbrev pub decreases-loop-low : goal.decreases-loop-low
decreases-loop-low g l = FINAL - l.start
