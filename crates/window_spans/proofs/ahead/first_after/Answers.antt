-- The place behind those that end at or before the time is that of the first one that ends later.
use Rattle.window_spans.proofs.Firsts.{found_at, none_at}
use Rattle.window_spans.proofs.ahead.first_after.Goals as goal

pub returns-then-place-spans : goal.returns-then-place-spans
returns-then-place-spans c = found_at c.args.time c.args.spans.now c.args.place (record { low = 0; high = 0 }) c.requires c.if-place-spans.true

pub returns-else-place-spans : goal.returns-else-place-spans
returns-else-place-spans c = none_at c.args.time c.args.spans.now c.args.place (record { low = 0; high = 0 }) c.requires c.if-place-spans.false
