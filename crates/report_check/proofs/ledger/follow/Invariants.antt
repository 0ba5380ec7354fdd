-- The keys so far stand behind the step, and those that are left before it.
use Rattle.report_check.proofs.Following.{AreFollowed}
use Rattle.report_check.proofs.ledger.follow.Given as goal

abbrev pub invariant-loop-place : goal.invariant-loop-place
invariant-loop-place g l = AreFollowed l.step l.fn.keys.items l.keys.items l.fn.out.items l.out.items l.place
