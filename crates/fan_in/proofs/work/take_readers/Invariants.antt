use Rattle.std.proofs.Common.{◌≡◌, ◌<◌, ◌+◌, ℕ, take, length, slice_index_or}
use Rattle.std.specs.Vec.{vec_capacity}
use Rattle.fan_in.proofs.work.take_readers.Given as goal

abbrev pub invariant-loop-i : goal.invariant-loop-i
invariant-loop-i g l = record {
  readers_many : length l.readers.items + l._i ≡ length l.initial.readers.items;
  readers_left : l.readers.items ≡ take (length l.readers.items) l.initial.readers.items;
  many_ends : length l.ends.items ≡ l._i;
  many_rows : length l.rows.items ≡ l._i;
  room_ends : vec_capacity l.ends ≡ length l.initial.readers.items;
  room_rows : vec_capacity l.rows ≡ length l.initial.readers.items;
  made : (i j : ℕ) (e : _) (row : _) (r : _) → j < l._i → i + j + 1 ≡ length l.initial.readers.items
      → slice_index_or l.initial.readers.items i r ≡ record { feed = (slice_index_or l.ends.items j e).feed; outcome = (slice_index_or l.ends.items j e).outcome; ports = slice_index_or l.rows.items j row };
}
