-- Each count is one part more.
use Rattle.std.proofs.Common.{◌∷◌, decimal}
use Rattle.emission_text.proofs.Sent.{element_failed, element_put, put_failed}
use Rattle.board_text.specs.Lines.{counts_text}
use Rattle.board_text.proofs.reads.put_each.Goals as goal

pub returns-in_err-put_count : goal.returns-in_err-put_count
returns-in_err-put_count g c =
    put_failed (counts_text c.args.counts.now) c.args.out.now c.put_count.new.out c.put_count.new.sink c.from_residual.result c.from_residual.ensures.0
    (element_failed (λ n. 32 ∷ decimal n) c.args.counts.now c.loop-count.count-index _ c.loop-count.out c.loop-count-test.true c.loop-count.invariant c.in_err-put_count.ensures)

pub loop-count-preserved : goal.loop-count-preserved
loop-count-preserved g c =
    element_put (λ n. 32 ∷ decimal n) c.args.counts.now c.loop-count.count-index _ c.loop-count.out c.loop-count-test.true c.loop-count.invariant c.in_ok-put_count.ensures
