-- The intervals so far are told.
use Rattle.std.proofs.Common.{◌≡◌, ◌+◌, ◌++◌, vec_len}
use Rattle.std.specs.Prelude.{vec_capacity}
use Rattle.agg_store.specs.Stored.{tuples_of}
use Rattle.time_lanes.specs.Told.{starts_from, told_at, told_late}
use Rattle.time_lanes.proofs.late.append_shown_late.Given as goal

abbrev pub invariant-loop-k : goal.invariant-loop-k
invariant-loop-k g l = record {
  told : l.out.items ≡ l.initial.out.items ++ told_late (told_at l.owner.window l.owner.key.now l.owner.func l.span.length (tuples_of (g.S.AggStore.stored l.store))) (starts_from l.span.slide l.complete.first l.k) l.formers;
  number : vec_len l.out ≡ vec_len l.initial.out + l.k;
  capacity : vec_capacity l.out ≡ vec_capacity l.initial.out;
}
