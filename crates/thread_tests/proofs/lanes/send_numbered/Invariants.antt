use Rattle.std.proofs.Common.{◌≡◌, ◌≤◌, length}
use Rattle.mail_lane.specs.Lane.{IsSenderOf}
use Rattle.thread_tests.proofs.lanes.send_numbered.Given as goal

abbrev pub invariant-loop-number : goal.invariant-loop-number
invariant-loop-number g l = record {
  lane : l.sender.lane ≡ l.initial.sender.lane;
  number : l.sender.number ≡ l.initial.sender.number;
  few : length l.sender.sent ≤ l.number;
}
