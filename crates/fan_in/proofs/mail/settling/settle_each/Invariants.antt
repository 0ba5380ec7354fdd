use Rattle.std.proofs.Common.{◌≡◌, ◌<◌, ◌+◌, ℕ, length, slice_index_or}
use Rattle.std.specs.Vec.{vec_capacity}
use Rattle.std.specs.Vec.Iter.{into_iter_items, into_iter_len}
use Rattle.fan_in.proofs.Settled.{IsSettling}
use Rattle.fan_in.proofs.mail.settling.settle_each.Given as goal

abbrev pub invariant-loop-k : goal.invariant-loop-k
invariant-loop-k g l = record {
  lanes_len : into_iter_len l.lanes + l._k ≡ length l.fn.lanes.items;
  owners_len : into_iter_len l.owners + l._k ≡ length l.fn.owners.items;
  room : vec_capacity l.shards ≡ length l.fn.lanes.items;
  feeds : (i : ℕ) (e : _) → i < length l.initial.ends → (slice_index_or l.ends i e).feed ≡ (slice_index_or l.initial.ends i e).feed;
  settling : IsSettling (λ e. e.outcome) l.plan.defs l.plan.sources l._k l.fn.lanes.items (into_iter_items l.lanes) l.fn.owners.items (into_iter_items l.owners) l.shards.items l.initial.ends l.ends;
}
