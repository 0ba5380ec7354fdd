-- One part more was asked, and needs as much room as before.
use Rattle.std.proofs.Common.{◌≤◌, ◌+◌, ◌*◌, ◌<◌, ℕ, arith, length, set, subst, take}
use Rattle.std.proofs.lemmas.List.{take_all}
use Rattle.key_slicer.specs.Parts.{rooms}
use Rattle.key_slicer.proofs.AheadFacts.{ahead_set, credit_less}
use Rattle.key_slicer.proofs.Loops.{one_stepped, room_more, rooms_same, work_more}
use Rattle.key_slicer.proofs.Steps.{IsAsked}
use Rattle.key_slicer.proofs.parts.Parts.before.Goals as goal

pub loop-window-preserved : goal.loop-window-preserved
loop-window-preserved g c =
    let d = c.args.defs.now in
    let i = c.loop-window.window in
    let now = c.loop-window.self.list.items in
    let start = c.args.self.now.list.items in
    let owed = λ (j : ℕ) (part : g.row.P.Denot). g.P.KeyPart.owed part in
    let within : i < length start = omega arith in
    let here : i < length now = omega (arith, c.loop-window.invariant.stepped.as_many) in
    let step = IsAsked g.P.KeyPart.stands d g.P.KeyPart.is_asked (λ j part. g.P.KeyPart.is_ready d j c.args.time c.args.water part) (λ j part. g.P.KeyPart.put_room d j c.args.time c.args.water part) c.args.water c.args.store.now c.args.time in
    record {
      stepped = one_stepped step i start now c.index_mut.result.now c.before-in-loop-window.new.self within c.loop-window.invariant.stepped c.index_mut.ensures.value
          (record { stays = c.before-in-loop-window.ensures.stays; asked = c.before-in-loop-window.ensures.asked; ready = c.before-in-loop-window.ensures.ready; same_room = c.before-in-loop-window.ensures.room });
      work = work_more (64 * (c.args.store.now.reach + 2)) (rooms owed (take i now)) (owed i c.before-in-loop-window.new.self) (rooms owed (take (i + 1) (set now i c.before-in-loop-window.new.self))) c.args.steps.now c.loop-window.steps c.before-in-loop-window.new.steps
          c.loop-window.invariant.work c.before-in-loop-window.ensures.cost.work (room_more owed i now c.before-in-loop-window.new.self here);
      credit = credit_less g.P.KeyPart.credit i (rooms (λ j part. g.P.KeyPart.credit part) start) now c.index_mut.result.now c.before-in-loop-window.new.self here c.index_mut.ensures.value c.before-in-loop-window.ensures.cost.credit c.loop-window.invariant.credit;
      ahead = ahead_set (g.P.KeyPart.is_ahead d) i start now c.index_mut.result.now c.before-in-loop-window.new.self here c.index_mut.ensures.value c.before-in-loop-window.ensures.ahead c.loop-window.invariant.ahead;
    }

pub returns-clause-room : goal.returns-clause-room
returns-clause-room g c =
    let d = c.args.defs.now in
    rooms_same (λ i part. g.P.KeyPart.put_room d i c.args.time c.args.water part) c.args.self.now.list.items c.loop-window.self.list.items c.loop-window.invariant.stepped.as_many
    (λ j x l. (c.loop-window.invariant.stepped.done j x (omega arith)).same_room)

pub returns-clause-cost : goal.returns-clause-cost
returns-clause-cost g c =
    let now = c.loop-window.self.list.items in
    let all : length now ≤ c.loop-window.window = omega (arith, c.loop-window.invariant.stepped.as_many) in
    record {
      work = subst (λ ps. c.loop-window.steps ≤ c.args.steps.now + 64 * (c.args.store.now.reach + 2) * rooms (λ i part. g.P.KeyPart.owed part) ps) (take_all c.loop-window.window now all) c.loop-window.invariant.work;
      credit = c.loop-window.invariant.credit;
    }
