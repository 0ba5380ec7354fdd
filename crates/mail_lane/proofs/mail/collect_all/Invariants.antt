use Rattle.std.proofs.Common.{◌≡◌, ◌++◌, map}
use Rattle.std.specs.Vec.Iter.{into_iter_items}
use Rattle.crossbeam_queue.specs.SegTies.{IsSegPassOf}
use Rattle.mail_lane.specs.declared.role.Role.TheVariants.{Receiving}
use Rattle.mail_lane.proofs.mail.collect_all.Given as goal

abbrev pub invariant-loop-sender : goal.invariant-loop-sender
invariant-loop-sender g l = record {
  can : (goal.iterator-loop-sender g).can_next l.sender-iterator;
  finite : (goal.iterator-loop-sender g).is_finite l.sender-iterator;
  left : l.yielded ++ into_iter_items l.sender-iterator ≡ l.fn.senders.items;
  pass : IsSegPassOf l.queue l.pass;
  role : l.pass.me.view.client ≡ Receiving l.fn.receiver.senders l.fn.receiver.taken (l.fn.receiver.back ++ map (λ sender. sender.sent) l.yielded);
}
