-- The least so far is such a number for each window so far, one of them has it for a bound, and all keep theirs.
use Rattle.std.proofs.Common.{◌≤◌, ◌<◌, ℕ, get_or}
use Rattle.stream_base.specs.declared.def.Def.{Def}
use Rattle.stream_base.specs.declared.limits.TheConstants.{FINAL}
use Rattle.plain_windows.specs.Changing.{BringsBound, BringsNoneBelow, KeepsBounds}
use Rattle.plain_windows.proofs.completions.bound_from.Given as goal

abbrev pub invariant-loop-def : goal.invariant-loop-def
invariant-loop-def l = record {
  none_below : (j : ℕ) (d : Def) → j < l.def-index → BringsNoneBelow (get_or l.windows j d).kind l.time l.least;
  stay : (j : ℕ) (d : Def) → j < l.def-index → KeepsBounds (get_or l.windows j d).kind;
  brought : l.least ≤ FINAL → (j : ℕ) × (j < l.def-index) × ((d : Def) → BringsBound (get_or l.windows j d).kind l.time l.least);
}
