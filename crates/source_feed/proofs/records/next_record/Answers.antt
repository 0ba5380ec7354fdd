-- The error of the reader becomes want of memory, and nothing else changes.
use Rattle.csv.specs.Records.{fields_of}
use Rattle.source_feed.specs.RecordsLeft.{TookRecord}
use Rattle.source_feed.proofs.CsvSteps.{read_shows, with_other_error}
use Rattle.source_feed.proofs.records.next_record.Goals as goal

pub returns : goal.returns
returns g c =
    let read = c.read_byte_record in
    with_other_error _ read.result c.map_err.result (TookRecord g.R.Read.remaining c.args.reader.now read.new.self (fields_of read.new.row)) c.map_err.ensures.cases
    (read_shows g.R.Read.remaining c.args.reader.now read.new.self (fields_of read.new.row) read.result c.requires read.ensures.reads read.ensures.reads_on)
