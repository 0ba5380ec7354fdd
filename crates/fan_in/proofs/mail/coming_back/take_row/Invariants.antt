use Rattle.std.proofs.Common.{◌≡◌, ◌≤◌, ◌<◌, ◌+◌, ℕ, drop, length, slice_index_or}
use Rattle.std.specs.Vec.Iter.{into_iter_items, into_iter_len}
use Rattle.fan_in.specs.Settling.{TookBack}
use Rattle.fan_in.proofs.mail.coming_back.take_row.Given as goal

abbrev pub invariant-loop-k : goal.invariant-loop-k
invariant-loop-k l = record {
  len : into_iter_len l.row + l.k ≡ length l.fn.row.items;
  left : into_iter_items l.row ≡ drop l.k l.fn.row.items;
  many : length l.owners ≡ length l.initial.owners;
  rest : (j : ℕ) (o : _) → l.k ≤ j → slice_index_or l.owners j o ≡ slice_index_or l.initial.owners j o;
  back : (j : ℕ) (o : _) → j < l.k → (s : _) → TookBack (slice_index_or l.fn.row.items j s).sent (slice_index_or l.initial.owners j o) (slice_index_or l.owners j o);
}
