-- The tuples of the parts so far are counted.
use Rattle.std.proofs.Common.{◌≡◌, length, take}
use Rattle.std.specs.List.{flat_map}
use Rattle.tuple_chunks.proofs.row.numbers.Given as goal

abbrev pub invariant-loop-part : goal.invariant-loop-part
invariant-loop-part g l = l.number ≡ length (flat_map g.P.Part.tuples (take l.part-index l.parts))
