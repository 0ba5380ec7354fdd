-- One part more took the move in.
use Rattle.std.proofs.Common.{◌≡◌, ◌∙◌, ◌+◌, ◌-◌, ◌*◌, ◌++◌, ◌<◌, ℕ, List, vec_len, ap, arith, drop, get_or, length, set, subst, sym}
use Rattle.stream_base.specs.declared.def.Def.{Def}
use Rattle.stream_base.specs.declared.kind.Kind.TheVariants.{Marks}
use Rattle.stream_base.specs.declared.func.Func.TheVariants.{Count}
use Rattle.stream_base.specs.Laws.{completions}
use Rattle.stream_base.specs.Model.Changes.{Moment}
use Rattle.key_slicer.specs.Parts.{rooms}
use Rattle.key_slicer.specs.Work.{moved_work, walk_work}
use Rattle.key_slicer.proofs.AheadFacts.{caught_more, credit_set, one_moved, paid_more}
use Rattle.key_slicer.proofs.WorkFacts.{walked_more}
use Rattle.key_slicer.proofs.Loops.{appended_all, appended_more, each_done, grown, is_untouched, one_stepped, room_first, rooms_from, stands_for_one, summed_all}
use Rattle.key_slicer.proofs.Steps.{IsMoved}
use Rattle.key_slicer.proofs.parts.Parts.water.Goals as goal

pub loop-window-preserved : goal.loop-window-preserved
loop-window-preserved g c =
    let d = c.args.defs.now in
    let i = c.loop-window.window in
    let now = c.loop-window.self.list.items in
    let start = c.args.self.now.list.items in
    let step = IsMoved g.P.KeyPart.stands d g.P.KeyPart.is_ahead c.args.old c.args.new c.args.store.now in
    let within : i < length start = omega arith in
    let here : i < length now = omega (arith, c.loop-window.invariant.stepped.as_many) in
    let untouched = is_untouched step i start now c.index_mut.result.now within c.loop-window.invariant.stepped c.index_mut.ensures.value in
    let room = λ (j : ℕ) (part : g.row.P.Denot). g.P.KeyPart.move_room d j c.args.store.now c.args.old c.args.new part in
    let first : rooms_from room i (drop i start) ≡ room i (get_or start i c.index_mut.result.now) + rooms_from room (i + 1) (drop (i + 1) start) = room_first room i start c.index_mut.result.now within in
    let same : room i c.index_mut.result.now ≡ room i (get_or start i c.index_mut.result.now) = ap (room i) (untouched c.index_mut.result.now) in
    let store = c.args.store.now in
    let def : Def = record { kind = Marks; func = Count } in
    let taken_up = g.P.KeyPart.taken_up in
    let credit = λ (part : g.row.P.Denot). g.P.KeyPart.credit part in
    let all_credit = λ (parts : List g.row.P.Denot). rooms (λ j part. g.P.KeyPart.credit part) parts in
    let changed : all_credit (set now i c.water.new.self) + credit c.index_mut.result.now ≡ all_credit now + credit c.water.new.self = credit_set g.P.KeyPart.credit i now c.index_mut.result.now c.water.new.self here c.index_mut.ensures.value in
    let completed : (m : Moment) → c.water.new.out.items ≡ c.loop-window.out.items ++ completions c.args.key.now m c.args.new (i, get_or d.windows i def) → vec_len c.water.new.out - vec_len c.loop-window.out ≡ length (completions c.args.key.now m c.args.new (i, get_or d.windows i def)) =
    λ m e. omega (arith, grown c.loop-window.out.items c.water.new.out.items (completions c.args.key.now m c.args.new (i, get_or d.windows i def)) e) in
    record {
      stepped = one_stepped step i start now c.index_mut.result.now c.water.new.self within c.loop-window.invariant.stepped c.index_mut.ensures.value (record { stands_on = c.water.ensures.stands; ahead = c.water.ensures.ahead });
      changes = λ m n all.
          appended_more (completions c.args.key.now m c.args.new) d.windows i (record { kind = Marks; func = Count }) c.args.out.now.items c.loop-window.out.items c.water.new.out.items (omega (arith, all.stood.as_many)) (c.loop-window.invariant.changes m n all)
          (c.water.ensures.changes m n (stands_for_one g.P.KeyPart.stands d c.args.old c.args.store.now start m n i c.index_mut.result.now within untouched all));
      spare = omega (arith, first, same, c.water.ensures.adds.number, c.water.ensures.adds.capacity, c.loop-window.invariant.spare);
      room = omega (arith, first, same, c.water.ensures.adds.number, c.loop-window.invariant.room);
      capacity = c.water.ensures.adds.capacity ∙ c.loop-window.invariant.capacity;
      work_ahead = λ m n all each.
          let one = stands_for_one g.P.KeyPart.stands d c.args.old c.args.store.now start m n i c.index_mut.result.now within untouched all in
          let many = completed m (c.water.ensures.changes m n one) in
          paid_more (moved_work taken_up d c.args.key.now m c.args.new store) d.windows i def c.args.steps.now c.loop-window.steps c.water.new.steps (all_credit start) (all_credit now) (all_credit (set now i c.water.new.self)) (credit c.index_mut.result.now) (credit c.water.new.self)
          (omega (arith, all.stood.as_many)) (c.loop-window.invariant.work_ahead m n all each)
          (omega (arith, c.water.ensures.work_ahead m n one (subst (g.P.KeyPart.is_ahead d i c.args.old store) (sym (untouched c.index_mut.result.now)) (each i c.index_mut.result.now within)), one_moved taken_up d c.args.key.now m c.args.old c.args.new store i def (vec_len c.water.new.out - vec_len c.loop-window.out) all.water_is many))
          changed;
      work = λ m n all.
          let one = stands_for_one g.P.KeyPart.stands d c.args.old c.args.store.now start m n i c.index_mut.result.now within untouched all in
          let many = completed m (c.water.ensures.changes m n one) in
          caught_more (moved_work taken_up d c.args.key.now m c.args.new store) (λ w. 10 * g.P.KeyPart.missed d w.0 store c.args.old) d.windows i def c.args.steps.now c.loop-window.steps c.water.new.steps (all_credit start) (all_credit now) (all_credit (set now i c.water.new.self)) (credit c.index_mut.result.now) (credit c.water.new.self)
          (omega (arith, all.stood.as_many)) (c.loop-window.invariant.work m n all)
          (omega (arith, c.water.ensures.work m n one, one_moved taken_up d c.args.key.now m c.args.old c.args.new store i def (vec_len c.water.new.out - vec_len c.loop-window.out) all.water_is many))
          changed;
      bound = λ m n all.
          let one = stands_for_one g.P.KeyPart.stands d c.args.old c.args.store.now start m n i c.index_mut.result.now within untouched all in
          walked_more c.args.key.now m c.args.new (length store.slices) store.reach d.windows i def (vec_len c.water.new.out - vec_len c.loop-window.out) c.args.steps.now c.loop-window.steps c.water.new.steps (omega (arith, all.stood.as_many))
          (c.loop-window.invariant.bound m n all) (completed m (c.water.ensures.changes m n one)) (c.water.ensures.bound m n one);
    }

pub returns-clause-changes : goal.returns-clause-changes
returns-clause-changes g c = λ m n all.
    appended_all (completions c.args.key.now m c.args.new) c.args.defs.now.windows c.loop-window.window c.args.out.now.items c.loop-window.out.items (omega arith) (c.loop-window.invariant.changes m n all)

pub returns-clause-ahead : goal.returns-clause-ahead
returns-clause-ahead g c = λ m n all.
    let d = c.args.defs.now in
    each_done (λ j part. g.P.KeyPart.is_ahead d j c.args.new c.args.store.now part) (IsMoved g.P.KeyPart.stands d g.P.KeyPart.is_ahead c.args.old c.args.new c.args.store.now) c.loop-window.window c.args.self.now.list.items c.loop-window.self.list.items (omega (arith, all.stood.as_many)) c.loop-window.invariant.stepped
    (λ j x l h. h.ahead m n (record { water_is = all.water_is; lists = all.lists; store = all.store; held = all.held; stood = all.stood.each j x l }))

pub returns-clause-work_ahead : goal.returns-clause-work_ahead
returns-clause-work_ahead g c = λ m n all each.
    let d = c.args.defs.now in
    omega (arith, c.loop-window.invariant.work_ahead m n all each, summed_all (moved_work g.P.KeyPart.taken_up d c.args.key.now m c.args.new c.args.store.now) d.windows c.loop-window.window (omega arith))

pub returns-clause-work : goal.returns-clause-work
returns-clause-work g c = λ m n all.
    let d = c.args.defs.now in
    omega (
      arith,
      c.loop-window.invariant.work m n all,
      summed_all (moved_work g.P.KeyPart.taken_up d c.args.key.now m c.args.new c.args.store.now) d.windows c.loop-window.window (omega arith),
      summed_all (λ w. 10 * g.P.KeyPart.missed d w.0 c.args.store.now c.args.old) d.windows c.loop-window.window (omega arith),
    )

pub returns-clause-bound : goal.returns-clause-bound
returns-clause-bound g c = λ m n all.
    let d = c.args.defs.now in
    let store = c.args.store.now in
    omega (arith, c.loop-window.invariant.bound m n all, summed_all (walk_work c.args.key.now m c.args.new (length store.slices) store.reach) d.windows c.loop-window.window (omega arith))
