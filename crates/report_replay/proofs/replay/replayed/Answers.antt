-- The entry that the shard refused isn't one that may come next.
use Rattle.std.proofs.Common.{◌≡◌, false, take, ap, rules}
use Rattle.shard_core.specs.Shard.{Sharded}
use Rattle.report_replay.proofs.Refused.{next_of}
use Rattle.report_replay.proofs.replay.replayed.Goals as goal

pub returns-then-not-branch-clause-refused : goal.returns-then-not-branch-clause-refused
returns-then-not-branch-clause-refused g c = λ may.
    let before = take c.loop-entry.entry-index c.args.journal.now in
    let is : c.loop-entry.shard.journal ≡ before = ap (λ (s : Sharded). s.journal) c.loop-entry.invariant in
    let off : c.in_ok-takes.field-0 ≡ false = search rules in
    c.in_ok-takes.ensures.refused off
    (rw is (next_of c.args.sources c.args.journal.now c.loop-entry.entry-index c.entry-item.result c.loop-entry-test.true c.entry-item.is may.1))
