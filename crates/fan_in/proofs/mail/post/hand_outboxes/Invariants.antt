use Rattle.std.proofs.Common.{◌≡◌, ◌+◌, length}
use Rattle.std.specs.Vec.Iter.{into_iter_items, into_iter_len}
use Rattle.fan_in.proofs.Posted.{IsHandingBoxes}
use Rattle.fan_in.proofs.mail.post.hand_outboxes.Given as goal

abbrev pub invariant-loop-i : goal.invariant-loop-i
invariant-loop-i l = record {
  len : into_iter_len l.senders + l.i ≡ length l.fn.senders.items;
  handing : IsHandingBoxes l.mail l.i l.fn.senders.items (into_iter_items l.senders) l.initial.rows l.rows;
}
