-- The windows so far, and those still to be read, are all windows.
use Rattle.std.proofs.Common.{◌≡◌, map, drop}
use Rattle.toml.specs.View.{view}
use Rattle.window_defs.specs.Reading.{windows_from}
use Rattle.window_defs.proofs.WindowFacts.{with_front}
use Rattle.window_defs.proofs.window.windows_of.Given as goal

abbrev pub invariant-loop-i : goal.invariant-loop-i
invariant-loop-i l = with_front l.windows.items (windows_from l.i (map view (drop l.i l.values))) ≡ windows_from 0 (map view l.values)
