-- The instances so far are told.
use Rattle.std.proofs.Common.{◌≡◌, ◌≤◌, ◌+◌, ◌*◌, ◌++◌, List, map, take}
use Rattle.std.specs.Prelude.{vec_len, vec_capacity}
use Rattle.stream_base.specs.declared.change.Change.TheVariants.{New}
use Rattle.stream_base.specs.Model.Changes.{row_of}
use Rattle.stream_base.specs.Model.Windows.{Instance}
use Rattle.window_spans.specs.Held.{AreHeld}
use Rattle.window_spans.proofs.telling.tell_all.Given as goal

abbrev pub invariant-loop-span : goal.invariant-loop-span
invariant-loop-span g l = record {
  told : (is : List Instance) → AreHeld l.spans (g.S.AggStore.stored l.store) is → l.out.items ≡ l.initial.out.items ++ map (λ i. New (row_of l.teller.window l.teller.key.now l.func i)) (take l.span-index is);
  len : vec_len l.out ≡ vec_len l.initial.out + l.span-index;
  capacity : vec_capacity l.out ≡ vec_capacity l.initial.out;
  cost : l.steps ≤ l.initial.steps + 64 * ((g.S.AggStore.stored l.store).reach + 2) * l.span-index;
}
