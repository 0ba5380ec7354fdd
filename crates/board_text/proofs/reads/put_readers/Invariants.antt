-- What is pending, and then the lines of the readers that are left, is what is left of all.
use Rattle.std.proofs.Common.{◌++◌, drop, map}
use Rattle.emission_text.specs.Sending.{AppendsPrefix}
use Rattle.board_text.specs.Reads.{readers_lines}
use Rattle.board_text.proofs.reads.put_readers.Given as goal

abbrev pub invariant-loop-reader : goal.invariant-loop-reader
invariant-loop-reader g l =
    AppendsPrefix g.K.Sink.taken g.K.Sink.faults (l.fn.out ++ readers_lines l.windows 0 (map (λ v. v.items) l.reads))
    (l.out ++ readers_lines l.windows l.reader (map (λ v. v.items) (drop l.reader l.reads))) l.fn.sink l.sink
