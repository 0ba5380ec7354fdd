-- One entry more, or a fault.
use Rattle.std.proofs.Common.{◌∙◌, Ok, ap}
use Rattle.std.proofs.lemmas.Result.{err_from_is_err_and}
use Rattle.part_text.specs.Parting.{ShowsRefusal}
use Rattle.part_text.proofs.Parting.{parting_fails, parting_more}
use Rattle.part_text.proofs.feed_part.part_of_feed.Goals as goal

pub returns-in_err-entry-clause-refused : goal.returns-in_err-entry-clause-refused
returns-in_err-entry-clause-refused g c =
    let f = g.F.Feed in
    let shown : ShowsRefusal (f.state c.next.new.self) c.in_err-entry.field-0.0
    = parting_fails c.args.shards c.args.shard (f.state c.args.feed.now) (f.state c.loop.feed) (f.state c.next.new.self) c.loop.writer (f.faults c.args.feed.now) (f.faults c.loop.feed) (f.faults c.next.new.self)
    c.next.result c.next.ensures.gives c.loop.invariant c.in_err-entry.field-0.0 c.in_err-entry.was in
    let p = err_from_is_err_and c.from_residual.result c.from_residual.ensures.1 in
    rw (p.1, p.2) shown

pub loop-preserved : goal.loop-preserved
loop-preserved g c =
    let f = g.F.Feed in
    parting_more c.args.shards c.args.shard (f.state c.args.feed.now) (f.state c.loop.feed) (f.state c.next.new.self) c.loop.writer (f.faults c.args.feed.now) (f.faults c.loop.feed) (f.faults c.next.new.self)
    c.next.result c.next.ensures.gives c.loop.invariant c.in-Some.entry c.write_own.new.writer (c.in_ok-entry.was ∙ ap Ok c.in-Some.is) c.next.ensures.counts c.in_ok-write_own-in-Some.ensures
