-- At most one record a byte.
use Rattle.std.proofs.Common.{arith}
use Rattle.csv.specs.Reading.{strip_bom}
use Rattle.source_feed.proofs.CsvSteps.{few_records, strip_bom_short}
use Rattle.source_feed.proofs.records.reader_of.Goals as goal

pub returns-clause-few : goal.returns-clause-few
returns-clause-few c =
    rw (c.from_reader.ensures.state, c.from_reader.ensures.source, c.new-2.ensures) (omega (arith, few_records (strip_bom c.args.bytes), strip_bom_short c.args.bytes))
