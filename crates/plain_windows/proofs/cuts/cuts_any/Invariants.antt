-- None of the windows so far cuts.
use Rattle.std.proofs.Common.{◌≡◌, false, take}
use Rattle.std.specs.List.{list_any}
use Rattle.stream_base.specs.Kinds.{cuts_between}
use Rattle.plain_windows.proofs.cuts.cuts_any.Given as goal

abbrev pub invariant-loop-def : goal.invariant-loop-def
invariant-loop-def l = list_any (λ w. cuts_between w.kind l.times.low l.times.high) (take l.def-index l.windows) ≡ false
