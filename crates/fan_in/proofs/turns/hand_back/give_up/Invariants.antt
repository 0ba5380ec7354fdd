use Rattle.std.proofs.Common.{◌≡◌, ◌<◌, ◌≤◌, ℕ, slice_index_or}
use Rattle.fan_in.specs.Works.{without_shards}
use Rattle.fan_in.proofs.turns.hand_back.give_up.Given as goal

abbrev pub invariant-loop-end : goal.invariant-loop-end
invariant-loop-end g l = record {
  made_feeds : (i : ℕ) (e : _) → i < l.end-index → (slice_index_or l.ends i e).feed ≡ (slice_index_or l.initial.ends i e).feed;
  made_outcomes : (i : ℕ) (e : _) → i < l.end-index → (slice_index_or l.ends i e).outcome ≡ without_shards (slice_index_or l.initial.ends i e).outcome;
  rest : (i : ℕ) (e : _) → l.end-index ≤ i → slice_index_or l.ends i e ≡ slice_index_or l.initial.ends i e;
}
