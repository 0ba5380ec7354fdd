-- One part more took the mark in.
use Rattle.std.proofs.Common.{◌≡◌, ◌∙◌, ◌+◌, ◌*◌, ◌<◌, ◌≤◌, ℕ, vec_len, ap, arith, drop, get_or, length}
use Rattle.stream_base.specs.declared.kind.Kind.TheVariants.{Marks}
use Rattle.stream_base.specs.declared.func.Func.TheVariants.{Count}
use Rattle.window_laws.specs.After.{with_mark}
use Rattle.key_slicer.specs.Parts.{rooms, turns}
use Rattle.key_slicer.proofs.AheadFacts.{credit_less}
use Rattle.key_slicer.proofs.Loops.{appended_all, appended_more, each_done, grown, is_untouched, mark_for_one, one_stepped, room_first, rooms_from, work_grown}
use Rattle.key_slicer.proofs.Steps.{IsMarkedIn}
use Rattle.key_slicer.proofs.parts.Parts.mark.Goals as goal

pub loop-window-preserved : goal.loop-window-preserved
loop-window-preserved g c =
    let d = c.args.defs.now in
    let i = c.loop-window.window in
    let now = c.loop-window.self.list.items in
    let start = c.args.self.now.list.items in
    let step = IsMarkedIn g.P.KeyPart.stands d g.P.KeyPart.is_ahead c.args.water c.args.time c.args.store.now in
    let within : i < length start = omega arith in
    let here : i < length now = omega (arith, c.loop-window.invariant.stepped.as_many) in
    let untouched = is_untouched step i start now c.index_mut.result.now within c.loop-window.invariant.stepped c.index_mut.ensures.value in
    let room = λ (j : ℕ) (part : g.row.P.Denot). g.P.KeyPart.mark_room d j c.args.time c.args.water part in
    let first : rooms_from room i (drop i start) ≡ room i (get_or start i c.index_mut.result.now) + rooms_from room (i + 1) (drop (i + 1) start) = room_first room i start c.index_mut.result.now within in
    let same : room i c.index_mut.result.now ≡ room i (get_or start i c.index_mut.result.now) = ap (room i) (untouched c.index_mut.result.now) in
    let r = c.requires.takes in
    let more : vec_len c.loop-window.out ≤ vec_len c.mark.new.out = omega (arith, grown c.loop-window.out.items c.mark.new.out.items (turns c.args.key.now r.0 (with_mark r.0 c.args.time) (i, get_or d.windows i (record { kind = Marks; func = Count }))) (c.mark.ensures.changes r.0 r.1 r.2 (mark_for_one g.P.KeyPart.stands d c.args.water c.args.time c.args.store.now start r.0 r.1 r.2 i c.index_mut.result.now within untouched r.3))) in
    record {
      stepped = one_stepped step i start now c.index_mut.result.now c.mark.new.self within c.loop-window.invariant.stepped c.index_mut.ensures.value (record { stands_on = c.mark.ensures.stands; ahead = λ m n before takes le. c.mark.ensures.ahead m n before takes (omega (arith, le, g.met.P.KeyPart.complete_in_time d i c.args.water)) });
      changes = λ m n before all.
          appended_more (turns c.args.key.now m (with_mark m c.args.time)) d.windows i (record { kind = Marks; func = Count }) c.args.out.now.items c.loop-window.out.items c.mark.new.out.items (omega (arith, all.stood.as_many)) (c.loop-window.invariant.changes m n before all)
          (c.mark.ensures.changes m n before (mark_for_one g.P.KeyPart.stands d c.args.water c.args.time c.args.store.now start m n before i c.index_mut.result.now within untouched all));
      spare = omega (arith, first, same, c.mark.ensures.adds.number, c.mark.ensures.adds.capacity, c.loop-window.invariant.spare);
      room = omega (arith, first, same, c.mark.ensures.adds.number, c.loop-window.invariant.room);
      capacity = c.mark.ensures.adds.capacity ∙ c.loop-window.invariant.capacity;
      grown = omega (arith, more, c.loop-window.invariant.grown);
      work = work_grown (64 * (c.args.store.now.reach + 2)) (vec_len c.args.out.now) (vec_len c.loop-window.out) (vec_len c.mark.new.out) c.args.steps.now c.loop-window.steps c.mark.new.steps
          c.loop-window.invariant.grown more c.loop-window.invariant.work c.mark.ensures.cost.work;
      credit = credit_less g.P.KeyPart.credit i (rooms (λ j part. g.P.KeyPart.credit part) start) now c.index_mut.result.now c.mark.new.self here c.index_mut.ensures.value c.mark.ensures.cost.credit c.loop-window.invariant.credit;
    }

pub returns-clause-changes : goal.returns-clause-changes
returns-clause-changes g c = λ m n before all.
    appended_all (turns c.args.key.now m (with_mark m c.args.time)) c.args.defs.now.windows c.loop-window.window c.args.out.now.items c.loop-window.out.items (omega arith) (c.loop-window.invariant.changes m n before all)

pub returns-clause-ahead : goal.returns-clause-ahead
returns-clause-ahead g c = λ m n before all le each.
    let d = c.args.defs.now in
    let start = c.args.self.now.list.items in
    each_done (λ j part. g.P.KeyPart.is_ahead d j c.args.water c.args.store.now part) (IsMarkedIn g.P.KeyPart.stands d g.P.KeyPart.is_ahead c.args.water c.args.time c.args.store.now) c.loop-window.window start c.loop-window.self.list.items (omega (arith, all.stood.as_many)) c.loop-window.invariant.stepped
    (λ j y l h. h.ahead m n before (record { water_is = all.water_is; is_water = all.is_water; step = all.step; stood = all.stood.each j y l }) le (each j y l))
