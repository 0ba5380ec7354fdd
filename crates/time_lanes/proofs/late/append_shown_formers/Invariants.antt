-- What stood of the intervals so far is told.
use Rattle.std.proofs.Common.{◌≡◌, ◌+◌, ◌++◌, map, vec_len}
use Rattle.std.specs.Prelude.{vec_capacity}
use Rattle.agg_store.specs.Stored.{tuples_of}
use Rattle.time_lanes.specs.Told.{former_at, starts_from}
use Rattle.time_lanes.proofs.late.append_shown_formers.Given as goal

abbrev pub invariant-loop-k : goal.invariant-loop-k
invariant-loop-k g l = record {
  told : l.into.items ≡ l.initial.into.items ++ map (former_at l.fn.func l.span.length (tuples_of (g.S.AggStore.stored l.store))) (starts_from l.span.slide l.fn.complete.first l.k);
  number : vec_len l.into ≡ vec_len l.initial.into + l.k;
  capacity : vec_capacity l.into ≡ vec_capacity l.initial.into;
}
