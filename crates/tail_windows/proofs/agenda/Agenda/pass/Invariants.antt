-- What is noted behind the watermark stays.
use Rattle.std.proofs.Common.{◌<◌, ℕ, List, length}
use Rattle.tail_windows.specs.Noted.{IsNoted}
use Rattle.tail_windows.proofs.agenda.Agenda.pass.Given as goal

abbrev pub invariant-loop-self : goal.invariant-loop-self
invariant-loop-self l = (at : ℕ) (k : List ℕ) → IsNoted l.fn.self at k → l.water < at → IsNoted l.self at k

abbrev pub decreases-loop-self : goal.decreases-loop-self
decreases-loop-self l = length l.self
