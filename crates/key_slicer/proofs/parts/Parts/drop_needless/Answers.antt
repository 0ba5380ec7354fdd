-- One part more let leave what nothing can need any more.
use Rattle.std.proofs.Common.{◌<◌, arith, length}
use Rattle.key_slicer.specs.Parts.{rooms}
use Rattle.key_slicer.proofs.AheadFacts.{ahead_set, credit_less}
use Rattle.key_slicer.proofs.Loops.{each_done, one_stepped, standing_on}
use Rattle.key_slicer.proofs.Steps.{IsLeaner}
use Rattle.key_slicer.proofs.parts.Parts.drop_needless.Goals as goal

pub loop-window-preserved : goal.loop-window-preserved
loop-window-preserved g c =
    let d = c.args.defs.now in
    let i = c.loop-window.window in
    let start = c.args.self.now.list.items in
    let now = c.loop-window.self.list.items in
    let within : i < length start = omega arith in
    let here : i < length now = omega (arith, c.loop-window.invariant.stepped.as_many) in
    record {
      stepped = one_stepped (IsLeaner g.P.KeyPart.stands d (λ j part. g.P.KeyPart.is_lean d j c.args.water part) c.args.water) i start now c.index_mut.result.now c.drop_needless.new.self within c.loop-window.invariant.stepped c.index_mut.ensures.value
          (record { lean = c.drop_needless.ensures.lean; stands_on = c.drop_needless.ensures.stands });
      credit = credit_less g.P.KeyPart.credit i (rooms (λ j part. g.P.KeyPart.credit part) start) now c.index_mut.result.now c.drop_needless.new.self here c.index_mut.ensures.value (omega (arith, c.drop_needless.ensures.credit)) c.loop-window.invariant.credit;
      ahead = ahead_set (g.P.KeyPart.is_ahead d) i start now c.index_mut.result.now c.drop_needless.new.self here c.index_mut.ensures.value c.drop_needless.ensures.ahead c.loop-window.invariant.ahead;
    }

pub returns-clause-lean : goal.returns-clause-lean
returns-clause-lean g c =
    let d = c.args.defs.now in
    each_done (λ j part. g.P.KeyPart.is_lean d j c.args.water part) (IsLeaner g.P.KeyPart.stands d (λ j part. g.P.KeyPart.is_lean d j c.args.water part) c.args.water) c.loop-window.window c.args.self.now.list.items c.loop-window.self.list.items (omega arith) c.loop-window.invariant.stepped
    (λ j x l h. h.lean)

pub returns-clause-stands : goal.returns-clause-stands
returns-clause-stands g c = λ m n s at stood.
    let d = c.args.defs.now in
    standing_on g.P.KeyPart.stands d (IsLeaner g.P.KeyPart.stands d (λ j part. g.P.KeyPart.is_lean d j c.args.water part) c.args.water) c.loop-window.window c.args.self.now.list.items c.loop-window.self.list.items
    m m n n s s (omega arith) c.loop-window.invariant.stepped stood
    (λ j x l h a. h.stands_on m n s at a)
