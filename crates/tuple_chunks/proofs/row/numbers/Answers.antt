-- Those of the parts so far and of the next one are among all.
use Rattle.std.proofs.Common.{ap, arith, length}
use Rattle.tuple_chunks.proofs.RowFacts.{numbers_within}
use Rattle.tuple_chunks.proofs.row.numbers.Goals as goal

pub overflow_add-number : goal.overflow_add-number
overflow_add-number g c =
    let f = g.P.Part.tuples in
    let x = c.part-item.result in
    omega (arith, c.loop-part.invariant, c.number-number.ensures, ap (λ p. length (f p)) c.part-item.is, numbers_within f g.P.Part.spare c.args.parts.now c.loop-part.part-index x (omega arith), c.requires)
