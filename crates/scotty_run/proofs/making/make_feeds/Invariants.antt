-- The feeds of the first sources.
use Rattle.std.proofs.Common.{◌≡◌, length}
use Rattle.std.specs.Vec.{vec_capacity}
use Rattle.scotty_run.specs.Making.{AreMadeFeeds}
use Rattle.scotty_run.proofs.making.make_feeds.Given as goal

abbrev pub invariant-loop-source : goal.invariant-loop-source
invariant-loop-source l = record {
  many : length l.feeds.items ≡ l.source;
  room : vec_capacity l.feeds ≡ (l.made).sources;
  feeds : AreMadeFeeds l.made l.feeds.items;
}
