-- The map finds what the table holds at the key.
use Rattle.toml.proofs.Views.{table_get}
use Rattle.window_defs.proofs.table.at.Goals as goal

pub returns : goal.returns
returns c = table_get c.get.result c.args.key.now c.args.table.now.entries c.get.ensures.value
