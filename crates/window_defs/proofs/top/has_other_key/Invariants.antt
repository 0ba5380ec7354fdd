-- A key that isn't known is among those to come exactly where one is there at all.
use Rattle.std.proofs.Common.{◌≡◌}
use Rattle.toml.specs.View.{members_view, table_view}
use Rattle.window_defs.specs.Tables.{has_other}
use Rattle.window_defs.specs.Reading.{is_top_key}
use Rattle.window_defs.proofs.top.has_other_key.Given as goal

abbrev pub invariant-loop-key : goal.invariant-loop-key
invariant-loop-key l = has_other is_top_key (members_view l.key-iterator) ≡ has_other is_top_key (table_view l.top)
