use Rattle.std.proofs.Common.{◌≡◌, ◌<◌, ◌+◌, ℕ, take, length, slice_index_or}
use Rattle.std.specs.Vec.{vec_capacity}
use Rattle.fan_in.specs.declared.outcome.Outcome.TheVariants.{Done}
use Rattle.fan_in.proofs.work.fill.Given as goal

abbrev pub invariant-loop-i : goal.invariant-loop-i
invariant-loop-i g l = record {
  feeds_many : length l.feeds.items + l._i ≡ length l.initial.feeds.items;
  feeds_left : l.feeds.items ≡ take (length l.feeds.items) l.initial.feeds.items;
  rows_many : length l.rows.items ≡ length l.feeds.items;
  rows_left : l.rows.items ≡ take (length l.feeds.items) l.initial.rows.items;
  many : length l.readers.items ≡ l._i;
  room : vec_capacity l.readers ≡ length l.initial.feeds.items;
  made : (i j : ℕ) (f : _) (row : _) (r : _) → i < l._i → i + j + 1 ≡ length l.initial.feeds.items
      → slice_index_or l.readers.items i r ≡ record { feed = slice_index_or l.initial.feeds.items j f; outcome = Done; ports = slice_index_or l.initial.rows.items j row };
}
