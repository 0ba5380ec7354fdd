use Rattle.std.proofs.Common.{◌≤◌, All, length}
use Rattle.mail_lane.specs.Lane.{AreSendersOf}
use Rattle.refused_calls.proofs.mail.send_each.Given as goal

abbrev pub invariant-loop-place : goal.invariant-loop-place
invariant-loop-place g l = record {
  senders : AreSendersOf l.mail l.senders.items;
  few : All (λ sender. length sender.sent ≤ l.place-index) l.senders.items;
}
