-- The last feeds are given back.
use Rattle.std.proofs.Common.{vec_len}
use Rattle.run_inputs.proofs.Opened.{AreGivenDownTo}
use Rattle.scotty_run.proofs.gathering.close_ends.Given as goal

abbrev pub invariant-loop-end : goal.invariant-loop-end
invariant-loop-end g l =
    let f = g.F.Files in
    AreGivenDownTo f.asked f.came f.told (λ x. g.F.Input.Source.reads x.feed.from) (λ x. g.F.Input.Source.told x.feed.from) l.ends.items l.initial.ends.items l.initial.files l.files

abbrev pub decreases-loop-end : goal.decreases-loop-end
decreases-loop-end g l = vec_len l.ends
