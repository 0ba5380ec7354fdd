-- The journals of the worked examples of tails.
use Rattle.std.specs.Prelude.{◌++◌, ℕ, ℤ, List, [], ◌∷◌}
use Rattle.stream_base.specs.declared.entry.Entry.{Entry}
use Rattle.stream_base.specs.declared.func.Func.{Func}
use Rattle.stream_base.specs.declared.shown.Shown.TheVariants.{Whole}
use Rattle.tail_windows.specs.Tails.{tail_changes_after}
use Rattle.tail_windows.specs.declared.def.TailDef.{TailDef}
use Rattle.tail_windows.specs.declared.row.TailRow.{TailRow}
use Rattle.tail_windows.specs.declared.change.TailChange.{TailChange}

abbrev pub tail : ℕ → ℕ → Func → TailDef
tail count period func = record { count = count; period = period; func = func }

abbrev pub row : ℕ → ℕ → ℤ → List ℕ → TailRow
row at number value key = record { key = key; at = at; number = number; shown = Whole value }

-- the changes under each of the entries behind `before`, of one source
abbrev pub changes_behind : TailDef → ℕ → List Entry → List Entry → List (List TailChange)
changes_behind def lateness before [] = []
changes_behind def lateness before (e ∷ es) = tail_changes_after def lateness 1 before e ∷ changes_behind def lateness (before ++ e ∷ []) es

abbrev pub changes_in : TailDef → ℕ → List Entry → List (List TailChange)
changes_in def lateness journal = changes_behind def lateness [] journal
