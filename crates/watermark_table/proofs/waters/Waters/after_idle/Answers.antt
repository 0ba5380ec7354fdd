-- The least of the sources, were one of them idle.
use Rattle.std.proofs.Common.{◌∙◌, ap, set}
use Rattle.watermark_table.specs.Watched.{idle_entry}
use Rattle.watermark_table.proofs.Tables.{rested_are, water_is}
use Rattle.watermark_table.proofs.waters.Waters.after_idle.Goals as goal

pub returns : goal.returns
returns c journal s =
    c.after_standing.ensures
    ∙ water_is c.args.self.now journal (idle_entry c.args.source) _ s
    (ap (set c.args.self.now.standings c.args.source) c.rested.ensures ∙ rested_are c.args.self.now journal c.args.source s c.index-standing.result.now c.requires.source (rw (← c.self.view_is) c.index-standing.ensures))
