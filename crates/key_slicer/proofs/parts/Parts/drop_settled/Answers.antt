-- One part more forgot what has ended.
use Rattle.std.proofs.Common.{◌<◌, arith, length}
use Rattle.key_slicer.specs.Parts.{rooms}
use Rattle.key_slicer.proofs.AheadFacts.{credit_less}
use Rattle.key_slicer.proofs.Loops.{each_done, one_stepped, standing_on}
use Rattle.key_slicer.proofs.Steps.{IsRid}
use Rattle.key_slicer.proofs.parts.Parts.drop_settled.Goals as goal

pub loop-window-preserved : goal.loop-window-preserved
loop-window-preserved g c =
    let d = c.args.defs.now in
    let i = c.loop-window.window in
    let start = c.args.self.now.list.items in
    let now = c.loop-window.self.list.items in
    let within : i < length start = omega arith in
    let here : i < length now = omega (arith, c.loop-window.invariant.stepped.as_many) in
    record {
      stepped = one_stepped (IsRid g.P.KeyPart.stands d g.P.KeyPart.is_ahead (λ j part. g.P.KeyPart.settles_at d j c.args.water part) c.args.water) i start now c.index_mut.result.now c.drop_settled.new.self within c.loop-window.invariant.stepped c.index_mut.ensures.value
          (record { stands_on = c.drop_settled.ensures.stands; ahead = c.drop_settled.ensures.ahead });
      credit = credit_less g.P.KeyPart.credit i (rooms (λ j part. g.P.KeyPart.credit part) start) now c.index_mut.result.now c.drop_settled.new.self here c.index_mut.ensures.value (omega (arith, c.drop_settled.ensures.credit)) c.loop-window.invariant.credit;
    }

pub returns-clause-stands : goal.returns-clause-stands
returns-clause-stands g c = λ m n time before more after all settles.
    standing_on g.P.KeyPart.stands c.args.defs.now (IsRid g.P.KeyPart.stands c.args.defs.now g.P.KeyPart.is_ahead (λ j part. g.P.KeyPart.settles_at c.args.defs.now j c.args.water part) c.args.water) c.loop-window.window c.args.self.now.list.items c.loop-window.self.list.items
    m m n more before after (omega arith) c.loop-window.invariant.stepped all.stood
    (λ j x l h a. h.stands_on m n time before more after (record { water_is = all.water_is; purge = all.purge; stood = a }) (settles j x l))

pub returns-clause-ahead : goal.returns-clause-ahead
returns-clause-ahead g c = λ m n time before more after all each.
    let d = c.args.defs.now in
    each_done (λ j part. g.P.KeyPart.is_ahead d j c.args.water after part) (IsRid g.P.KeyPart.stands d g.P.KeyPart.is_ahead (λ j part. g.P.KeyPart.settles_at d j c.args.water part) c.args.water) c.loop-window.window c.args.self.now.list.items c.loop-window.self.list.items (omega arith) c.loop-window.invariant.stepped
    (λ j x l h. h.ahead m n time before more after (record { water_is = all.water_is; purge = all.purge; stood = all.stood.each j x l }) (each j x l))
