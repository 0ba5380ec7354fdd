-- None of them stands where the watermark isn't behind the time, and the sessions near the time are apart as all are.
use Rattle.std.proofs.Common.{subst, sym, rules}
use Rattle.window_spans.specs.Spans.{AreApart, is_near}
use Rattle.window_spans.proofs.Apart.{apart_filter}
use Rattle.context_windows.proofs.Untold.{none_asked}
use Rattle.context_windows.proofs.sessions.standing_near.Goals as goal

pub first_standing-requires : goal.first_standing-requires
first_standing-requires c = subst AreApart (search rules) (apart_filter (is_near c.args.gap c.args.time) c.args.spans.now c.requires.apart)

pub returns-then-water-time : goal.returns-then-water-time
returns-then-water-time c = sym (none_asked c.args.gap c.args.time c.args.water c.if-water-time.true c.args.spans.now)
