use Rattle.std.proofs.Common.{◌≡◌, ◌+◌, ◌^◌}
use Rattle.std.specs.Prelude.{All}
use Rattle.turnstile.specs.Passes.{IsPassOf, room}
use Rattle.thread_tests.proofs.turns.all_passes.Given as goal

abbrev pub invariant-loop-i : goal.invariant-loop-i
invariant-loop-i l = All (λ p. IsPassOf l.turnstile p) l.passes.items × IsPassOf l.turnstile l.zero × (room l.zero + l._i ≡ 2 ^ 62)
