-- The least of the sources, were one of them to stand so.
use Rattle.std.proofs.Common.{◌∙◌, ap, set}
use Rattle.watermark_table.specs.Watched.{water_entry, end_entry}
use Rattle.watermark_table.proofs.Tables.{raised_are, ended_are, water_is}
use Rattle.watermark_table.proofs.waters.Waters.after.Goals as goal

pub returns-clause-raised : goal.returns-clause-raised
returns-clause-raised c journal s h =
    c.after_standing.ensures
    ∙ water_is c.args.self.now journal (water_entry c.args.source c.args.time) _ s
    (ap (set c.args.self.now.standings c.args.source) (c.standing_after.ensures.raised h) ∙ raised_are c.args.self.now journal c.args.source s c.index-standing.result.now c.args.time c.requires.source (rw (← c.self.view_is) c.index-standing.ensures) h)

pub returns-clause-ended : goal.returns-clause-ended
returns-clause-ended c journal s h =
    c.after_standing.ensures
    ∙ water_is c.args.self.now journal (end_entry c.args.source) _ s
    (ap (set c.args.self.now.standings c.args.source) (c.standing_after.ensures.ended h) ∙ ended_are c.args.self.now journal c.args.source s)
