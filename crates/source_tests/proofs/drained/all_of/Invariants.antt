use Rattle.std.specs.Prelude.{◌≡◌, ◌++◌}
use Rattle.source_feed.specs.Stream.{StaysTold}
use Rattle.source_tests.proofs.drained.all_of.Given as goal

-- the feed is one of the same source, and gave these entries since
abbrev pub invariant-turns : goal.invariant-turns
invariant-turns g l = record {
  source : (g.F.Feed.state l.feed).source ≡ (g.F.Feed.state l.fn.feed).source;
  origin : (g.F.Feed.state l.feed).origin ≡ (g.F.Feed.state l.fn.feed).origin;
  seen : StaysTold (g.F.Feed.state l.fn.feed).whole (g.F.Feed.state l.feed).whole;
  gave : (g.F.Feed.state l.feed).gave ≡ (g.F.Feed.state l.fn.feed).gave ++ l.entries.items;
}
