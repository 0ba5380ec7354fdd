-- The intervals so far are told.
use Rattle.std.proofs.Common.{◌≡◌, ◌+◌, ◌++◌, vec_len}
use Rattle.std.specs.Prelude.{vec_capacity}
use Rattle.time_lanes.specs.Joined.{joined_at}
use Rattle.time_lanes.specs.Told.{starts_from, told_late}
use Rattle.time_lanes.proofs.joined.append_joined.Given as goal

abbrev pub invariant-loop-k : goal.invariant-loop-k
invariant-loop-k l = record {
  told : l.out.items ≡ l.initial.out.items ++ told_late (joined_at l.owner.window l.owner.key.now l.owner.func l.span.length l.value) (starts_from l.span.slide l.complete.first l.k) l.formers;
  number : vec_len l.out ≡ vec_len l.initial.out + l.k;
  capacity : vec_capacity l.out ≡ vec_capacity l.initial.out;
}
