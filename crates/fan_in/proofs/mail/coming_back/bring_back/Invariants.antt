use Rattle.std.proofs.Common.{◌≡◌, ◌+◌, length}
use Rattle.std.specs.Vec.Iter.{into_iter_items, into_iter_len}
use Rattle.fan_in.proofs.Settled.{IsBringing}
use Rattle.fan_in.proofs.mail.coming_back.bring_back.Given as goal

abbrev pub invariant-loop-i : goal.invariant-loop-i
invariant-loop-i l = record {
  len : into_iter_len l.rows + l._i ≡ length l.fn.rows.items;
  bringing : IsBringing l._i l.fn.rows.items (into_iter_items l.rows) l.initial.owners l.owners;
}
