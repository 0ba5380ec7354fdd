-- The parts so far show.
use Rattle.std.proofs.Common.{◌≡◌, take}
use Rattle.std.specs.List.{flat_map}
use Rattle.stream_base.specs.Model.Windows.{within}
use Rattle.tuple_chunks.specs.Sums.{shown_of}
use Rattle.tuple_chunks.proofs.row.shown_parts.Given as goal

abbrev pub invariant-loop-part : goal.invariant-loop-part
invariant-loop-part g l = l.shown ≡ shown_of (within l.low l.high (flat_map g.P.Part.tuples (take l.part-index l.parts)))
