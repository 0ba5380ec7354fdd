-- What is pending, and then the counts that are left, is what is left of all.
use Rattle.std.proofs.Common.{◌++◌, drop}
use Rattle.emission_text.specs.Sending.{AppendsPrefix}
use Rattle.board_text.specs.Lines.{counts_text}
use Rattle.board_text.proofs.reads.put_each.Given as goal

abbrev pub invariant-loop-count : goal.invariant-loop-count
invariant-loop-count g l =
    AppendsPrefix g.K.Sink.taken g.K.Sink.faults (l.fn.out ++ counts_text l.counts) (l.out ++ counts_text (drop l.count-index l.counts)) l.fn.sink l.sink
