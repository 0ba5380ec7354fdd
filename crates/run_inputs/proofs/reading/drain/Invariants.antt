-- The entries so far, and what the feed has left, are what it told.
use Rattle.std.proofs.Common.{◌-◌, ◌^◌, vec_len}
use Rattle.run_inputs.proofs.Draining.{IsDraining}
use Rattle.run_inputs.proofs.EntryFacts.{AreGivenBy}
use Rattle.run_inputs.proofs.reading.drain.Given as goal

abbrev pub invariant-loop-all : goal.invariant-loop-all
invariant-loop-all g l = record {
  draining : IsDraining (g.F.Feed.state l.initial.feed) (g.F.Feed.state l.feed) l.all.items (g.F.Feed.faults l.initial.feed) (g.F.Feed.faults l.feed);
  given : AreGivenBy (g.F.Feed.state l.initial.feed).source (g.F.Feed.state l.feed).ended l.all.items;
}

abbrev pub decreases-loop-all : goal.decreases-loop-all
decreases-loop-all g l = 2 ^ 64 - vec_len l.all
