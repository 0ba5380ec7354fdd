-- A fresh key stands under every watermark.
use Rattle.key_slicer.proofs.StateFacts.{fresh_fits}
use Rattle.key_slicer.proofs.engine.KeyStateKeyWindows.fresh.Goals as goal

pub returns-clause-empty : goal.returns-clause-empty
returns-clause-empty g c = λ water.
    fresh_fits g.P.KeyPart.stands c.args.defs.now water c.new.result c.in_ok-fresh.field-0.list.items c.in_ok-fresh.ensures.limits c.new.ensures.slices c.new.ensures.marks c.new.ensures.dropped (c.new.ensures.sliced c.args.defs.now.windows) c.in_ok-fresh.ensures.stands

pub returns-clause-ahead : goal.returns-clause-ahead
returns-clause-ahead g c = λ water. c.in_ok-fresh.ensures.ahead water c.new.result c.new.ensures.slices
