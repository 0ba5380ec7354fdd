use Rattle.std.proofs.Common.{map, take}
use Rattle.scotty_run.specs.Settling.{IsLeastFull}
use Rattle.scotty_run.proofs.settling.least_full.Given as goal

abbrev pub invariant-loop-i : goal.invariant-loop-i
invariant-loop-i g l = record {
  so_far : IsLeastFull (map (λ e. e.outcome) (take l.i l.ends)) l.least;
}
