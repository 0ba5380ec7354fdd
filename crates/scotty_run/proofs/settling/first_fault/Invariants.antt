use Rattle.std.proofs.Common.{◌<◌, ℕ, map, slice_index_or}
use Rattle.fan_in.specs.declared.outcome.Outcome.{Outcome}
use Rattle.fan_in.specs.Gathering.{IsFault}
use Rattle.scotty_run.proofs.settling.first_fault.Given as goal

abbrev pub invariant-loop-i : goal.invariant-loop-i
invariant-loop-i g l = record {
  below : (j : ℕ) (o : Outcome) → j < l.i → ¬ (IsFault (slice_index_or (map (λ e. e.outcome) l.ends) j o));
}
