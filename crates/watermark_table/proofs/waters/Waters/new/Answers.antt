-- A fresh table stands for the empty journal.
use Rattle.std.proofs.Common.{refl}
use Rattle.watermark_table.proofs.Tables.{stands_for_none}
use Rattle.watermark_table.proofs.waters.Waters.new.Goals as goal

pub returns-clause-stands : goal.returns-clause-stands
returns-clause-stands c = stands_for_none c.args.sources c.args.lateness _ c.requires.some (c.in_ok-vec.ensures.items_if_clones_equal (λ y h. h)) refl
