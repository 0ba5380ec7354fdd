-- The front, and then the counts.
use Rattle.std.proofs.Common.{[], ◌∷◌, ◌++◌, take}
use Rattle.emission_text.proofs.Sent.{both_put, first_failed, put_failed}
use Rattle.board_text.specs.Lines.{counts_text, read_front}
use Rattle.board_text.proofs.ReadLines.{read-line}
use Rattle.board_text.proofs.reads.put_read.Goals as goal

pub returns-in_err-put_front : goal.returns-in_err-put_front
returns-in_err-put_front g c =
    let t = c.args.read.now in
    let front = read_front c.args.reader t.entries in
    let counts = counts_text (take c.args.windows t.counts) ++ 10 ∷ [] in
    rw (← read-line c.args.windows c.args.reader t)
    (put_failed (front ++ counts) c.args.out.now c.put_front.new.out c.put_front.new.sink c.from_residual.result c.from_residual.ensures.0
    (first_failed c.args.out.now front counts c.in_err-put_front.ensures))

pub returns : goal.returns
returns g c =
    let t = c.args.read.now in
    rw (← read-line c.args.windows c.args.reader t)
    (both_put c.args.out.now (read_front c.args.reader t.entries) (counts_text (take c.args.windows t.counts) ++ 10 ∷ []) c.put_counts.new.out c.put_counts.new.sink c.put_counts.result c.in_ok-put_front.ensures c.put_counts.ensures)
