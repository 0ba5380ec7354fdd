-- One part more has room.
use Rattle.std.proofs.Common.{◌∙◌, ◌+◌, ◌<◌, arith, length, rules, sym}
use Rattle.key_slicer.specs.Parts.{rooms}
use Rattle.key_slicer.proofs.AheadFacts.{ahead_set, credit_less}
use Rattle.key_slicer.proofs.Loops.{one_stepped, room_more}
use Rattle.key_slicer.proofs.Steps.{IsReserved}
use Rattle.key_slicer.proofs.parts.Parts.reserve_mark.Goals as goal

pub loop-window-preserved : goal.loop-window-preserved
loop-window-preserved g c =
    let d = c.args.defs.now in
    let i = c.loop-window.window in
    let now = c.loop-window.self.list.items in
    let start = c.args.self.now.list.items in
    let within : i < length start = omega arith in
    let here : i < length now = omega (arith, c.loop-window.invariant.stepped.as_many) in
    record {
      stepped = one_stepped (IsReserved g.P.KeyPart.stands d (λ j part. g.P.KeyPart.is_ready d j c.args.time c.args.water part)) i start now c.index_mut.result.now c.reserve_mark.new.self within c.loop-window.invariant.stepped c.index_mut.ensures.value
          (record { stays = c.in_ok-more.ensures.stays; ready = c.in_ok-more.ensures.ready });
      room = c.in_ok-room.ensures ∙ (λ k. c.loop-window.invariant.room k + c.in_ok-more.ensures.room k)
          ∙ sym (room_more (λ j part. g.P.KeyPart.mark_room d j c.args.time c.args.water part) i now c.reserve_mark.new.self here);
      credit = credit_less g.P.KeyPart.credit i (rooms (λ j part. g.P.KeyPart.credit part) start) now c.index_mut.result.now c.reserve_mark.new.self here c.index_mut.ensures.value c.reserve_mark.ensures.credit c.loop-window.invariant.credit;
      ahead = ahead_set (g.P.KeyPart.is_ahead d) i start now c.index_mut.result.now c.reserve_mark.new.self here c.index_mut.ensures.value c.reserve_mark.ensures.ahead c.loop-window.invariant.ahead;
    }

pub returns-in_err-more : goal.returns-in_err-more
returns-in_err-more g c =
    let now = c.loop-window.self.list.items in
    let here : c.loop-window.window < length now = omega (arith, c.loop-window.invariant.stepped.as_many) in
    record {
      stays = search rules;
      ready = search rules;
      room = search rules;
      credit = credit_less g.P.KeyPart.credit c.loop-window.window (rooms (λ j part. g.P.KeyPart.credit part) c.args.self.now.list.items) now c.index_mut.result.now c.reserve_mark.new.self here c.index_mut.ensures.value c.reserve_mark.ensures.credit c.loop-window.invariant.credit;
      ahead = ahead_set (g.P.KeyPart.is_ahead c.args.defs.now) c.loop-window.window c.args.self.now.list.items now c.index_mut.result.now c.reserve_mark.new.self here c.index_mut.ensures.value c.reserve_mark.ensures.ahead c.loop-window.invariant.ahead;
    }

pub returns-in_err-room : goal.returns-in_err-room
returns-in_err-room g c =
    let now = c.loop-window.self.list.items in
    let here : c.loop-window.window < length now = omega (arith, c.loop-window.invariant.stepped.as_many) in
    record {
      stays = search rules;
      ready = search rules;
      room = search rules;
      credit = credit_less g.P.KeyPart.credit c.loop-window.window (rooms (λ j part. g.P.KeyPart.credit part) c.args.self.now.list.items) now c.index_mut.result.now c.reserve_mark.new.self here c.index_mut.ensures.value c.reserve_mark.ensures.credit c.loop-window.invariant.credit;
      ahead = ahead_set (g.P.KeyPart.is_ahead c.args.defs.now) c.loop-window.window c.args.self.now.list.items now c.index_mut.result.now c.reserve_mark.new.self here c.index_mut.ensures.value c.reserve_mark.ensures.ahead c.loop-window.invariant.ahead;
    }
