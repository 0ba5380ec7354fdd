-- The bundles of both are combined.
use Rattle.std.proofs.Common.{subst}
use Rattle.tuple_chunks.specs.Sums.{IsSum}
use Rattle.tuple_chunks.proofs.SumFacts.{both_sums}
use Rattle.tuple_chunks.proofs.sums.joined.Goals as goal

pub returns-clause-sum : goal.returns-clause-sum
returns-clause-sum g c = λ xs ys h k.
    both_sums c.in-Some.left c.in-Some-right.right c.combine.result c.combine.ensures.joined xs ys (subst (λ s. IsSum s xs) c.in-Some.is h) (subst (λ s. IsSum s ys) c.in-Some-right.is k)
