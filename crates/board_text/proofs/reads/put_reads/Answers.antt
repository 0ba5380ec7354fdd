-- The lines of the readers, and then the last line.
use Rattle.std.proofs.Common.{codes, map}
use Rattle.emission_text.proofs.Sent.{both_put, first_failed, put_failed}
use Rattle.board_text.specs.Reads.{readers_lines, reads_text}
use Rattle.board_text.proofs.reads.put_reads.Goals as goal

pub returns-in_err-put_readers : goal.returns-in_err-put_readers
unfolding reads_text
returns-in_err-put_readers g c =
    let lists = map (λ v. v.items) c.args.reads.now in
    put_failed (reads_text c.args.windows lists) c.args.out.now c.put_readers.new.out c.put_readers.new.sink c.from_residual.result c.from_residual.ensures.0
    (first_failed c.args.out.now (readers_lines c.args.windows 0 lists) (codes "end\n") c.in_err-put_readers.ensures)

pub returns : goal.returns
unfolding reads_text
returns g c =
    let lists = map (λ v. v.items) c.args.reads.now in
    both_put c.args.out.now (readers_lines c.args.windows 0 lists) (codes "end\n")
    c.put_pieces.new.out c.put_pieces.new.sink c.put_pieces.result c.in_ok-put_readers.ensures c.put_pieces.ensures
