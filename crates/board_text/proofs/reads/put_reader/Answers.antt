-- The line of each read is one part more.
use Rattle.emission_text.proofs.Sent.{element_failed, element_put, put_failed}
use Rattle.board_text.specs.Reads.{read_line, reader_lines}
use Rattle.board_text.proofs.reads.put_reader.Goals as goal

pub returns-in_err-put_read : goal.returns-in_err-put_read
returns-in_err-put_read g c =
    put_failed (reader_lines c.args.windows c.args.reader c.args.reads.now) c.args.out.now c.put_read.new.out c.put_read.new.sink c.from_residual.result c.from_residual.ensures.0
    (element_failed (read_line c.args.windows c.args.reader) c.args.reads.now c.loop-read.read-index _ c.loop-read.out c.loop-read-test.true c.loop-read.invariant c.in_err-put_read.ensures)

pub loop-read-preserved : goal.loop-read-preserved
loop-read-preserved g c =
    element_put (read_line c.args.windows c.args.reader) c.args.reads.now c.loop-read.read-index _ c.loop-read.out c.loop-read-test.true c.loop-read.invariant c.in_ok-put_read.ensures
