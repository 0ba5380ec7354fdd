-- The least so far, with the bounds of the windows that are left, is the least of all.
use Rattle.std.proofs.Common.{◌≡◌, drop}
use Rattle.std.specs.Prelude.{min}
use Rattle.std.specs.List.{flat_map, fold}
use Rattle.plain_windows.specs.Changing.{bounds_ahead}
use Rattle.plain_windows.proofs.completions.next_bound.Given as goal

abbrev pub invariant-loop-def : goal.invariant-loop-def
invariant-loop-def l =
    fold min l.least (flat_map (bounds_ahead l.view) (drop l.def-index l.windows))
    ≡ fold min 18446744073709551615 (flat_map (bounds_ahead l.view) l.windows)
