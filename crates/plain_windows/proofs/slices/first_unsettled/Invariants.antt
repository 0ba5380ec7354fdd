-- The tuples before the place, and no others, are settled in the windows so far.
use Rattle.std.proofs.Common.{take}
use Rattle.std.specs.List.{list_all}
use Rattle.stream_base.specs.Model.Slices.{is_settled_in}
use Rattle.plain_windows.specs.Turns.{IsTurnOf}
use Rattle.plain_windows.proofs.slices.first_unsettled.Given as goal

abbrev pub invariant-loop-def : goal.invariant-loop-def
invariant-loop-def l = IsTurnOf (λ x. list_all (is_settled_in l.lateness l.view x) (take l.def-index l.windows)) l.view.kept l.first
