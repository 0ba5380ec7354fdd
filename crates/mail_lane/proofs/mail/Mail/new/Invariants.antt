use Rattle.std.proofs.Common.{◌≡◌, [], All, length}
use Rattle.crossbeam_queue.specs.SegTies.{IsSegPassOf}
use Rattle.mail_lane.specs.declared.role.Role.TheVariants.{Receiving}
use Rattle.mail_lane.specs.Lane.{AreNumbered}
use Rattle.mail_lane.proofs.mail.Mail.new.Given as goal

abbrev pub invariant-loop-number : goal.invariant-loop-number
invariant-loop-number g l = record {
  pass : IsSegPassOf l.line.queue l.pass;
  role : l.pass.me.view.client ≡ Receiving l.number [] [];
  count : length l.all.items ≡ l.number;
  placed : AreNumbered l.line.queue l.all.items;
  unsent : All (λ sender. sender.sent ≡ []) l.all.items;
}
