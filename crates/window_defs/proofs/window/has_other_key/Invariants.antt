-- A key that isn't known is among those to come exactly where one is there at all.
use Rattle.std.proofs.Common.{◌≡◌}
use Rattle.toml.specs.View.{members_view, table_view}
use Rattle.window_defs.specs.Tables.{has_other}
use Rattle.window_defs.specs.Windows.{is_window_key}
use Rattle.window_defs.proofs.window.has_other_key.Given as goal

abbrev pub invariant-loop-key : goal.invariant-loop-key
invariant-loop-key l = has_other (is_window_key l.kind) (members_view l.key-iterator) ≡ has_other (is_window_key l.kind) (table_view l.fields)
