-- The sessions from the first place up to this one are removed.
use Rattle.std.proofs.Common.{◌≡◌, ◌+◌, ◌-◌, ◌++◌, take, drop}
use Rattle.std.specs.Prelude.{vec_len, vec_capacity}
use Rattle.window_spans.proofs.joining.remove_between.Given as goal

abbrev pub invariant-loop-at : goal.invariant-loop-at
invariant-loop-at l = record {
  items : l.spans.items ≡ take l.from l.initial.spans.items ++ drop l._at l.initial.spans.items;
  len : vec_len l.spans + (l._at - l.from) ≡ vec_len l.initial.spans;
  capacity : vec_capacity l.spans ≡ vec_capacity l.initial.spans;
}
