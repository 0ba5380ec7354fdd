-- The last feeds are given back.
use Rattle.std.proofs.Common.{vec_len}
use Rattle.run_inputs.proofs.Opened.{AreGivenDownTo}
use Rattle.run_inputs.proofs.opening.close_feeds.Given as goal

abbrev pub invariant-loop-feed : goal.invariant-loop-feed
invariant-loop-feed g l =
    let f = g.F.Files in
    AreGivenDownTo f.asked f.came f.told (λ x. g.F.Input.Source.reads x.from) (λ x. g.F.Input.Source.told x.from) l.feeds.items l.initial.feeds.items l.initial.files l.files

abbrev pub decreases-loop-feed : goal.decreases-loop-feed
decreases-loop-feed g l = vec_len l.feeds
