use Rattle.std.proofs.Common.{◌≡◌, []}
use Rattle.mail_lane.specs.Lane.{IsReceiverOf}
use Rattle.thread_tests.proofs.lanes.take_all.Given as goal

abbrev pub invariant-loop : goal.invariant-loop
invariant-loop g l = IsReceiverOf l.mail l.receiver × (l.receiver.back ≡ [])
