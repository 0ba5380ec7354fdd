-- The shards, and then the last line.
use Rattle.std.proofs.Common.{codes, map}
use Rattle.std.specs.List.{zip}
use Rattle.emission_text.proofs.Sent.{both_put, first_failed, put_failed}
use Rattle.tail_text.specs.Texts.{in_vectors, shards_with, tails_text}
use Rattle.tail_text.proofs.report.put_text.Goals as goal

pub returns-in_err-put_shards : goal.returns-in_err-put_shards
unfolding tails_text
returns-in_err-put_shards g c =
    let journals = map (λ s. s.journal) c.args.shards.now in
    let tails = in_vectors c.args.tails.now in
    put_failed (tails_text journals tails) c.args.out.now c.put_shards.new.out c.put_shards.new.sink c.from_residual.result c.from_residual.ensures.0
    (first_failed c.args.out.now (shards_with 0 (zip journals tails)) (codes "end\n") c.in_err-put_shards.ensures)

pub returns : goal.returns
unfolding tails_text
returns g c =
    let journals = map (λ s. s.journal) c.args.shards.now in
    let tails = in_vectors c.args.tails.now in
    both_put c.args.out.now (shards_with 0 (zip journals tails)) (codes "end\n") c.put_pieces.new.out c.put_pieces.new.sink c.put_pieces.result c.in_ok-put_shards.ensures c.put_pieces.ensures
