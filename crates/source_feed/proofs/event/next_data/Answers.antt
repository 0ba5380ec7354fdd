use Rattle.std.proofs.Common.{sym, ◌∙◌}
use Rattle.csv.specs.Records.{fields_of}
use Rattle.source_feed.specs.RecordsLeft.{records_left}
use Rattle.source_feed.proofs.EventSteps.{header_read, nothing_more}
use Rattle.source_feed.proofs.event.next_data.Goals as goal

-- no record was left
pub returns-then-not-branch : goal.returns-then-not-branch
returns-then-not-branch g c =
    nothing_more c.args.number.now (records_left g.R.Read.remaining c.args.reader.now) (rw c.if-not-branch.true at c.in_ok-next_record.ensures)

-- the first record was a header
pub returns : goal.returns
returns g c =
    let first = rw c.if-not-branch.false at c.in_ok-next_record.ensures in
    header_read g.R.Read.remaining c.args.reader.now c.next_record.new.reader c.next_record-2.new.reader c.args.number.now (fields_of c.next_record.new.fields) (fields_of c.next_record-2.new.fields) c.next_record-2.result
    c.if-number-ne1.false (sym c.is_header.ensures ∙ c.if-not-is_header.false) c.requires.few first.1 c.next_record-2.ensures
