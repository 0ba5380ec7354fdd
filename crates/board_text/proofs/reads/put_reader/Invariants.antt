-- What is pending, and then the lines of the reads that are left, is what is left of all.
use Rattle.std.proofs.Common.{◌++◌, drop}
use Rattle.std.specs.List.{flat_map}
use Rattle.emission_text.specs.Sending.{AppendsPrefix}
use Rattle.board_text.specs.Reads.{read_line}
use Rattle.board_text.proofs.reads.put_reader.Given as goal

abbrev pub invariant-loop-read : goal.invariant-loop-read
invariant-loop-read g l =
    AppendsPrefix g.K.Sink.taken g.K.Sink.faults (l.fn.out ++ flat_map (read_line l.windows l.reader) l.reads)
    (l.out ++ flat_map (read_line l.windows l.reader) (drop l.read-index l.reads)) l.fn.sink l.sink
