-- The text so far, and then the windows that are left, is the text with all of them.
use Rattle.std.proofs.Common.{◌≡◌, ◌++◌, drop}
use Rattle.std.specs.List.{flat_map}
use Rattle.part_text.specs.DefinitionsText.{window_text}
use Rattle.part_text.proofs.defs_text.put_windows.Given as goal

abbrev pub invariant-loop-window : goal.invariant-loop-window
invariant-loop-window l =
    l.text.items ++ flat_map window_text (drop l.window-index l.windows)
    ≡ l.fn.text.items ++ flat_map window_text l.windows
