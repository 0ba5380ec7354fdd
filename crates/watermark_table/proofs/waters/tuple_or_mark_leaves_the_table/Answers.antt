-- No standing changes.
use Rattle.watermark_table.proofs.Tables.{stands_behind_keyed}
use Rattle.watermark_table.proofs.waters.tuple_or_mark_leaves_the_table.Goals as goal

pub returns : goal.returns
returns c = stands_behind_keyed
