-- The sum of the parts so far.
use Rattle.std.proofs.Common.{◌≡◌, ◌≤◌, ◌+◌, ◌-◌, length, take}
use Rattle.std.specs.List.{flat_map}
use Rattle.stream_base.specs.Model.Windows.{within}
use Rattle.tuple_chunks.specs.Sums.{IsSum}
use Rattle.tuple_chunks.proofs.row.fold_parts.Given as goal

abbrev pub invariant-loop-part : goal.invariant-loop-part
invariant-loop-part g l = record {
  kept : l.parts ≡ l.initial.parts;
  sum : IsSum l.sum (within l.low l.high (flat_map g.P.Part.tuples (take l.part-index l.initial.parts)));
  cost : l.steps ≤ l.initial.steps + (length (within l.low l.high (flat_map g.P.Part.tuples (take l.part-index l.initial.parts))) - 1);
}
