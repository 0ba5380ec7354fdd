-- The lines of each reader are one part more.
use Rattle.std.proofs.Common.{◌+◌, drop, map}
use Rattle.emission_text.proofs.Sent.{part_failed, part_put, put_failed}
use Rattle.board_text.specs.Reads.{reader_lines, readers_lines}
use Rattle.board_text.proofs.ReadLines.{readers-more}
use Rattle.board_text.proofs.reads.put_readers.Goals as goal

pub returns-in_err-put_reader : goal.returns-in_err-put_reader
returns-in_err-put_reader g c =
    let reader = c.loop-reader.reader in
    let reads = c.as_slice.result.now in
    put_failed (readers_lines c.args.windows 0 (map (λ v. v.items) c.args.reads.now)) c.args.out.now c.put_reader.new.out c.put_reader.new.sink c.from_residual.result c.from_residual.ensures.0
    (part_failed c.loop-reader.out (reader_lines c.args.windows reader reads) (readers_lines c.args.windows (reader + 1) (map (λ v. v.items) (drop (reader + 1) c.args.reads.now)))
    (readers-more (λ v. v.items) c.args.windows c.args.reads.now reader c.index-reads-reader.result reads c.loop-reader-test.true c.index-reads-reader.is c.as_slice.ensures.value) c.loop-reader.invariant c.in_err-put_reader.ensures)

pub loop-reader-preserved : goal.loop-reader-preserved
loop-reader-preserved g c =
    let reader = c.loop-reader.reader in
    let reads = c.as_slice.result.now in
    part_put c.loop-reader.out (reader_lines c.args.windows reader reads) (readers_lines c.args.windows (reader + 1) (map (λ v. v.items) (drop (reader + 1) c.args.reads.now)))
    (readers-more (λ v. v.items) c.args.windows c.args.reads.now reader c.index-reads-reader.result reads c.loop-reader-test.true c.index-reads-reader.is c.as_slice.ensures.value) c.loop-reader.invariant c.in_ok-put_reader.ensures
