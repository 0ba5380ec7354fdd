-- The text so far, and then the numbers that are left, is the text with all of them.
use Rattle.std.proofs.Common.{◌≡◌, ◌++◌, drop}
use Rattle.std.specs.List.{flat_map}
use Rattle.window_defs.specs.Windows.{keyed_numbers}
use Rattle.part_text.specs.DefinitionsText.{number_text}
use Rattle.part_text.proofs.defs_text.put_keyed_numbers.Given as goal

abbrev pub invariant-loop-number : goal.invariant-loop-number
invariant-loop-number l =
    l.text.items ++ flat_map number_text (keyed_numbers (drop l.number-index l.numbers))
    ≡ l.fn.text.items ++ flat_map number_text (keyed_numbers l.numbers)
