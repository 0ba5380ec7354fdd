-- One part more took the tuple in.
use Rattle.std.proofs.Common.{◌≡◌, ◌∙◌, ◌+◌, ◌-◌, ◌<◌, ◌≤◌, ℕ, vec_len, ap, arith, drop, get_or, length}
use Rattle.std.proofs.lemmas.List.{drop_all}
use Rattle.stream_base.specs.declared.kind.Kind.TheVariants.{Marks}
use Rattle.stream_base.specs.declared.func.Func.TheVariants.{Count}
use Rattle.window_laws.specs.After.{with_tuple}
use Rattle.key_slicer.specs.Parts.{AllTakeTuple, rooms, turns}
use Rattle.key_slicer.specs.Work.{turn_work}
use Rattle.key_slicer.proofs.AheadFacts.{credit_less}
use Rattle.key_slicer.proofs.Loops.{appended_all, appended_more, each_done, grown, is_untouched, one_stepped, room_first, rooms_from, summed_all, tuple_for_one}
use Rattle.key_slicer.proofs.Steps.{IsPutIn}
use Rattle.key_slicer.proofs.WorkFacts.{turned_more}
use Rattle.key_slicer.proofs.parts.Parts.put.Goals as goal

pub loop-window-preserved : goal.loop-window-preserved
loop-window-preserved g c =
    let d = c.args.defs.now in
    let i = c.loop-window.window in
    let now = c.loop-window.self.list.items in
    let start = c.args.self.now.list.items in
    let x = c.args.x in
    let asked = g.P.KeyPart.is_asked in
    let step = IsPutIn g.P.KeyPart.stands d asked g.P.KeyPart.is_ahead c.args.water x c.args.store.now in
    let within : i < length start = omega arith in
    let here : i < length now = omega (arith, c.loop-window.invariant.stepped.as_many) in
    let untouched = is_untouched step i start now c.index_mut.result.now within c.loop-window.invariant.stepped c.index_mut.ensures.value in
    let room = λ (j : ℕ) (part : g.row.P.Denot). g.P.KeyPart.put_room d j c.args.x.time c.args.water part in
    let first : rooms_from room i (drop i start) ≡ room i (get_or start i c.index_mut.result.now) + rooms_from room (i + 1) (drop (i + 1) start) = room_first room i start c.index_mut.result.now within in
    let same : room i c.index_mut.result.now ≡ room i (get_or start i c.index_mut.result.now) = ap (room i) (untouched c.index_mut.result.now) in
    let r = c.requires.takes in
    let come : AllTakeTuple g.P.KeyPart.stands d asked c.args.water x c.args.store.now start r.0 r.1 r.2 r.3 =
    r.4 in
    let owed = λ (j : ℕ) (part : g.row.P.Denot). g.P.KeyPart.owed part in
    let asked_first : rooms_from owed i (drop i start) ≡ owed i (get_or start i c.index_mut.result.now) + rooms_from owed (i + 1) (drop (i + 1) start) = room_first owed i start c.index_mut.result.now within in
    let asked_same : owed i c.index_mut.result.now ≡ owed i (get_or start i c.index_mut.result.now) = ap (owed i) (untouched c.index_mut.result.now) in
    let more : vec_len c.loop-window.out ≤ vec_len c.put.new.out = omega (arith, grown c.loop-window.out.items c.put.new.out.items (turns c.args.key.now r.0 (with_tuple r.0 x) (i, get_or d.windows i (record { kind = Marks; func = Count }))) (c.put.ensures.changes r.0 r.1 r.2 r.3 (tuple_for_one g.P.KeyPart.stands d asked c.args.water x c.args.store.now start r.0 r.1 r.2 r.3 i c.index_mut.result.now within untouched come))) in
    record {
      stepped = one_stepped step i start now c.index_mut.result.now c.put.new.self within c.loop-window.invariant.stepped c.index_mut.ensures.value (record { stands_on = c.put.ensures.stands; ahead = λ m n before more takes le. c.put.ensures.ahead m n before more takes (omega (arith, le, g.met.P.KeyPart.complete_in_time d i c.args.water)) });
      changes = λ m n before more all.
          appended_more (turns c.args.key.now m (with_tuple m x)) d.windows i (record { kind = Marks; func = Count }) c.args.out.now.items c.loop-window.out.items c.put.new.out.items (omega (arith, all.stood.as_many)) (c.loop-window.invariant.changes m n before more all)
          (c.put.ensures.changes m n before more (tuple_for_one g.P.KeyPart.stands d asked c.args.water x c.args.store.now start m n before more i c.index_mut.result.now within untouched all));
      spare = omega (arith, first, same, c.put.ensures.adds.number, c.put.ensures.adds.capacity, c.loop-window.invariant.spare);
      room = omega (arith, first, same, c.put.ensures.adds.number, c.loop-window.invariant.room);
      capacity = c.put.ensures.adds.capacity ∙ c.loop-window.invariant.capacity;
      grown = omega (arith, more, c.loop-window.invariant.grown);
      owed = omega (arith, asked_first, asked_same, more, c.put.ensures.owed, c.loop-window.invariant.grown, c.loop-window.invariant.owed);
      work = λ m n before more all.
          let many : vec_len c.put.new.out - vec_len c.loop-window.out ≡ length (turns c.args.key.now m (with_tuple m x) (i, get_or d.windows i (record { kind = Marks; func = Count }))) =
          omega (
            arith,
            grown c.loop-window.out.items c.put.new.out.items (turns c.args.key.now m (with_tuple m x) (i, get_or d.windows i (record { kind = Marks; func = Count })))
                (c.put.ensures.changes m n before more (tuple_for_one g.P.KeyPart.stands d asked c.args.water x c.args.store.now start m n before more i c.index_mut.result.now within untouched all)),
          ) in
          turned_more c.args.key.now m (with_tuple m x) c.args.store.now.reach d.windows i (record { kind = Marks; func = Count }) (vec_len c.put.new.out - vec_len c.loop-window.out) c.args.steps.now c.loop-window.steps c.put.new.steps (omega (arith, all.stood.as_many))
          (c.loop-window.invariant.work m n before more all) many c.put.ensures.cost.work;
      credit = credit_less g.P.KeyPart.credit i (rooms (λ j part. g.P.KeyPart.credit part) start) now c.index_mut.result.now c.put.new.self here c.index_mut.ensures.value c.put.ensures.cost.credit c.loop-window.invariant.credit;
    }

pub returns-clause-changes : goal.returns-clause-changes
returns-clause-changes g c =
    let d = c.args.defs.now in
    let start = c.args.self.now.list.items in
    (λ m n before more all. appended_all (turns c.args.key.now m (with_tuple m c.args.x)) d.windows c.loop-window.window c.args.out.now.items c.loop-window.out.items (omega arith)
    (c.loop-window.invariant.changes m n before more all))

pub returns-clause-owed : goal.returns-clause-owed
returns-clause-owed g c =
    let start = c.args.self.now.list.items in
    let none : rooms_from (λ (j : ℕ) (part : g.row.P.Denot). g.P.KeyPart.owed part) c.loop-window.window (drop c.loop-window.window start) ≡ 0 = ap (rooms_from (λ (j : ℕ) (part : g.row.P.Denot). g.P.KeyPart.owed part) c.loop-window.window) (drop_all c.loop-window.window start (omega arith)) in
    omega (arith, none, c.loop-window.invariant.owed)

pub returns-clause-work : goal.returns-clause-work
returns-clause-work g c =
    let d = c.args.defs.now in
    let start = c.args.self.now.list.items in
    let reach = c.args.store.now.reach in
    (λ m n before more all. omega (arith, c.loop-window.invariant.work m n before more all, summed_all (turn_work c.args.key.now m (with_tuple m c.args.x) reach) d.windows c.loop-window.window (omega arith)))

pub returns-clause-ahead : goal.returns-clause-ahead
returns-clause-ahead g c =
    let d = c.args.defs.now in
    let start = c.args.self.now.list.items in
    let now = c.loop-window.self.list.items in
    let x = c.args.x in
    (λ m n before more all le each. each_done (λ j part. g.P.KeyPart.is_ahead d j c.args.water c.args.store.now part) (IsPutIn g.P.KeyPart.stands d g.P.KeyPart.is_asked g.P.KeyPart.is_ahead c.args.water x c.args.store.now) c.loop-window.window start now (omega (arith, all.stood.as_many)) c.loop-window.invariant.stepped
    (λ j y l h. h.ahead m n before more (record { water_is = all.water_is; is_water = all.is_water; step = all.step; stood = all.stood.each j y l; asked = all.asked j y l }) le (each j y l)))
