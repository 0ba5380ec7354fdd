-- At the start there was no event before.
use Rattle.std.proofs.Common.{Some, None, false, ap}
use Rattle.csv.specs.Reading.{default_config, records, strip_bom}
use Rattle.source_feed.specs.Events.{events_of}
use Rattle.source_feed.specs.FeedState.{FeedState}
use Rattle.source_feed.specs.Stream.{Stream}
use Rattle.source_feed.specs.declared.row_fault.RowFault.{RowFault}
use Rattle.source_feed.proofs.Made.{stream_alike}
use Rattle.source_feed.proofs.rows.Rows.of_pieces.Goals as goal

pub returns : goal.returns
returns c =
    let state : Stream → FeedState RowFault = λ stream. record { source = c.args.source; ended = false; answered = None; rest = Some stream } in
    rw (c.start.ensures, c.nothing.ensures, c.reader_of.ensures.left)
    (ap state (stream_alike c.args.source c.args.every c.args.disorder (events_of (records default_config (strip_bom c.args.bytes)))))
