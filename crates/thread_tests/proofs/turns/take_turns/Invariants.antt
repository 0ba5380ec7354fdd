use Rattle.turnstile.specs.Passes.{IsPassOf}
use Rattle.thread_tests.proofs.turns.take_turns.Given as goal

abbrev pub invariant-loop-value : goal.invariant-loop-value
invariant-loop-value g l = IsPassOf l.turnstile l.pass
