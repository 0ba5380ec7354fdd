-- The part of what the feed gave so far is written.
use Rattle.part_text.proofs.Parting.{IsParting}
use Rattle.part_text.proofs.feed_part.part_of_feed.Given as goal

abbrev pub invariant-loop : goal.invariant-loop
invariant-loop g l = IsParting l.shards l.shard (g.F.Feed.state l.initial.feed) (g.F.Feed.state l.feed) l.writer (g.F.Feed.faults l.initial.feed) (g.F.Feed.faults l.feed)
