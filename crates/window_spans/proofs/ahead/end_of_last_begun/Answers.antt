-- The last of those that start by the time stands before the place behind them.
use Rattle.std.proofs.Common.{◌-◌, arith}
use Rattle.window_spans.proofs.Apart.{lows_rise}
use Rattle.window_spans.proofs.Lasts.{begun_at, none_at_all}
use Rattle.window_spans.proofs.ahead.end_of_last_begun.Goals as goal

pub begun_by-place-requires : goal.begun_by-place-requires
begun_by-place-requires c = lows_rise c.args.spans.now c.requires

pub returns-then-place-gt0 : goal.returns-then-place-gt0
returns-then-place-gt0 c = begun_at c.args.time c.args.spans.now c.begun_by-place.result (c.begun_by-place.result - 1) (record { low = 0; high = 0 }) c.requires c.begun_by-place.ensures (omega arith)

pub returns-else-place-gt0 : goal.returns-else-place-gt0
returns-else-place-gt0 c = none_at_all c.args.time c.args.spans.now c.begun_by-place.result (record { low = 0; high = 0 }) c.begun_by-place.ensures (omega arith)
