-- A source that has ended stands so.
use Rattle.watermark_table.proofs.Tables.{ended_is, own_standing}
use Rattle.std.proofs.Common.{◌∙◌}
use Rattle.watermark_table.proofs.waters.Waters.has_ended.Goals as goal

pub returns : goal.returns
returns c journal s = c.is_ended.ensures ∙ ended_is c.args.source journal c.index.result.now (own_standing c.args.self.now journal c.args.source s c.index.result.now c.requires (rw (← c.self.view_is) c.index.ensures))
