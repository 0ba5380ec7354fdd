-- The parts that are left are those behind the ones that left, and no tuple from the time on is gone.
use Rattle.std.proofs.Common.{◌≡◌, ◌<◌, ◌≤◌, ◌+◌, drop, vec_len}
use Rattle.std.specs.Prelude.{nat_le}
use Rattle.std.specs.List.{filter, flat_map}
use Rattle.stream_base.specs.declared.kept.Kept.{Kept}
use Rattle.stream_base.specs.Model.Windows.{last_time}
use Rattle.tuple_chunks.specs.Parts.{AreParts}
use Rattle.tuple_chunks.proofs.row.drop_parts.Given as goal

abbrev pub invariant-loop-parts : goal.invariant-loop-parts
invariant-loop-parts g l = record {
  rest : l.parts.items ≡ drop l.gone l.initial.parts.items;
  len : vec_len l.parts + l.gone ≡ vec_len l.initial.parts;
  some : 0 < vec_len l.parts;
  holds : AreParts g.P.Part.tuples l.parts.items;
  same : filter (λ (x : Kept). nat_le l.time x.time) (flat_map g.P.Part.tuples l.initial.parts.items) ≡ filter (λ (x : Kept). nat_le l.time x.time) (flat_map g.P.Part.tuples l.parts.items);
  stays : l.time ≤ last_time (flat_map g.P.Part.tuples l.parts.items);
}

abbrev pub decreases-loop-parts : goal.decreases-loop-parts
decreases-loop-parts g l = vec_len l.parts
