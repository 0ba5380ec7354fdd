use Rattle.std.proofs.Common.{length}
use Rattle.fan_in.proofs.Midway.{IsMidway}
use Rattle.fan_in.proofs.reading.read_feed.Given as goal

abbrev pub invariant-entries : goal.invariant-entries
invariant-entries g l =
    (goal.iterator-entries g).can_next l.iterator' ×
    (goal.iterator-entries g).is_finite l.iterator' ×
    IsMidway g.P.Port (length l.inlets) (g.F.Feed.state l.fn.reader.feed) (g.F.Feed.state l.reader.feed) (g.F.Feed.faults l.fn.reader.feed) (g.F.Feed.faults l.reader.feed) l.reader.outcome l.fn.reader.ports.items l.reader.ports.items
