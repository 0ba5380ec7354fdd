-- Where a key stands in an order.
use Rattle.std.specs.Prelude.{◌*◌, ◌%◌, ℕ}
use Rattle.tree_times.specs.declared.order.Order.{Order}
use Rattle.tree_times.specs.declared.order.Order.TheVariants.{Rising, Scattered}

abbrev pub rank_of : Order → ℕ → ℕ
rank_of Rising key = key
rank_of Scattered key = key * 255559 % 1048576
