-- At the start the whole stream is told.
use Rattle.std.proofs.Common.{◌∙◌, Some, None, false, ap}
use Rattle.source_feed.specs.FeedState.{FeedState}
use Rattle.source_feed.specs.MadeFeedView.{rest_of}
use Rattle.source_feed.specs.Pace.{waiting_of}
use Rattle.source_feed.specs.Stream.{Stream}
use Rattle.source_feed.specs.declared.feed_fault.FeedFault.{FeedFault}
use Rattle.source_feed.proofs.MadeGiving.{closes_making, rest_at_start}
use Rattle.source_feed.proofs.made_feed.Making.new.Goals as goal

pub returns-clause-value : goal.returns-clause-value
returns-clause-value c =
    let g = c.start.result in
    let w = waiting_of c.nothing.result in
    let of : Stream → FeedState FeedFault = λ stream. record { source = c.args.index; ended = false; answered = None; rest = Some stream } in
    ap (λ s. record { source = s; ended = false; answered = None; rest = Some (rest_of g w false) }) c.start.ensures.source
    ∙ ap of (rest_at_start c.args.seed c.args.rows c.args.sources c.args.index g w c.start.ensures.source c.nothing.ensures c.start.ensures.left)

pub returns-clause-whole : goal.returns-clause-whole
returns-clause-whole c = closes_making c.start.result (waiting_of c.nothing.result) false (rw c.nothing.ensures tt)
