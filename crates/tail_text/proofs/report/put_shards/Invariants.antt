-- What is pending, and then the lines of the shards that are left, is what is left of all.
use Rattle.std.proofs.Common.{◌++◌, map}
use Rattle.std.specs.List.{zip}
use Rattle.emission_text.specs.Sending.{AppendsPrefix}
use Rattle.tail_text.specs.Texts.{in_vectors, shards_with}
use Rattle.tail_text.proofs.TextFacts.{shards_from}
use Rattle.tail_text.proofs.report.put_shards.Given as goal

abbrev pub invariant-loop-k : goal.invariant-loop-k
invariant-loop-k g l =
    AppendsPrefix g.K.Sink.taken g.K.Sink.faults (l.fn.out ++ shards_with 0 (zip (map (λ s. s.journal) l.shards) (in_vectors l.tails))) (l.out ++ shards_from (map (λ s. s.journal) l.shards) (in_vectors l.tails) l.k) l.fn.sink l.sink
