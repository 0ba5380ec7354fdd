-- What stood before is told with the tuple; the lane goes on to know the slices before it.
use Rattle.std.proofs.Common.{◌≡◌, ◌∙◌, ◌≤◌, ◌+◌, ◌-◌, ◌*◌, ap, sym, refl, take, drop, length, subst, arith, rules, vec_len}
use Rattle.std.specs.Int.{w64}
use Rattle.std.proofs.lemmas.Int.{to_z-of_z}
use Rattle.stream_base.specs.declared.def.Def.{Def}
use Rattle.time_lanes.specs.Lane.{Knows, MissesNoSlice, Laned}
use Rattle.time_lanes.specs.Late.{complete_holding}
use Rattle.time_lanes.proofs.ServedFacts.{same_window}
use Rattle.time_lanes.proofs.StayFacts.{tuple_stays}
use Rattle.key_parts.specs.Calls.{window_at, window_kind}
use Rattle.time_parts.specs.Places.{stands_at, timed_at}
use Rattle.time_parts.specs.Untold.{taken_in}
use Rattle.time_parts.specs.Lanes.{Timed, late_room}
use Rattle.time_parts.proofs.LaneFacts.{changed_of_all, is_late, timed_work, told_number}
use Rattle.time_parts.proofs.WindowFacts.{within_at}
use Rattle.time_parts.proofs.lane_part.LanePartKeyPart.put.Goals as goal

pub late-requires-clause-sliced : goal.late-requires-clause-sliced
late-requires-clause-sliced g c =
    let q = c.requires.takes in
    (taken_in c.args.defs.now c.args.window q.1 q.2 c.args.x q.3 (g.S.AggStore.stored c.args.store.now) q.4.stood.timed q.4.step.comes).0.sliced

pub late-requires-clause-formers : goal.late-requires-clause-formers
late-requires-clause-formers g c = λ def stands.
    let q = c.requires.takes in
    let d = c.args.defs.now in
    let w = window_at d c.args.window in
    let same : def ≡ w = same_window d.windows c.args.window def w stands (stands_at d c.args.window q.4.stood.timed) in
    let told : c.deref.result.now ≡ c.args.self.now.formers = c.deref.ensures.value ∙ ap (λ (p : Timed _). p.formers) c.self.view_is in
    let number = told_number w c.args.x.time c.args.water q.0 c.deref.result.now q.4.water_is (told ∙ q.4.asked) in
    subst (λ (e : Def). length (complete_holding e.kind c.args.x.time c.args.water) ≤ length c.deref.result.now) (sym same) (omega (arith, number))

pub late-requires-clause-spare : goal.late-requires-clause-spare
late-requires-clause-spare g c = λ def stands.
    let q = c.requires.takes in
    let d = c.args.defs.now in
    let w = window_at d c.args.window in
    let same : def ≡ w = same_window d.windows c.args.window def w stands (stands_at d c.args.window q.4.stood.timed) in
    let number : length (complete_holding def.kind c.args.x.time c.args.water) ≡ late_room d c.args.window c.args.x.time c.args.water = ap (λ (e : Def). length (complete_holding e.kind c.args.x.time c.args.water)) same in
    omega (arith, number, c.requires.spare)

pub returns-clause-stands : goal.returns-clause-stands
returns-clause-stands g c = λ m n before more takes.
    let d = c.args.defs.now in
    let t = takes.stood.timed in
    let kind = window_kind d c.args.window in
    let kinds = takes.step.held.may_leave.kinds in
    let x = c.args.x in
    let stored = (taken_in d c.args.window n before x more (g.S.AggStore.stored c.args.store.now) t takes.step.comes).0 in
    let same = tuple_stays d.windows c.args.window (window_at d c.args.window) before kinds (stands_at d c.args.window t) (timed_at d c.args.window t) takes.step.store takes.step.held.sliced (g.S.AggStore.stored c.args.store.now) x stored.put in
    record {
      timed = t;
      shown = takes.stood.shown;
      knows = c.touched.ensures.knows kind m.water before (g.S.AggStore.stored c.args.store.now) same (subst (λ (l : Laned _). Knows g.M.Partial.of_values kind m.water before l) (sym (ap (λ (p : Timed _). p.lane) c.self.view_is)) takes.stood.knows);
    }

pub returns-clause-changes : goal.returns-clause-changes
returns-clause-changes g c = λ m n before more takes.
    let d = c.args.defs.now in
    let t = takes.stood.timed in
    let w = window_at d c.args.window in
    let x = c.args.x in
    let told : c.deref.result.now ≡ c.args.self.now.formers = c.deref.ensures.value ∙ ap (λ (p : Timed _). p.formers) c.self.view_is in
    changed_of_all m n c.args.water (drop n m.kept) takes.water_is refl w c.args.window c.args.key.now x c.args.out.now.items c.late.new.out.items (timed_at d c.args.window t) (within_at d c.args.window t takes.step.held.may_leave.kinds)
    (c.late.ensures.changes w (take n m.kept) (drop n m.kept) m.marks x (stands_at d c.args.window t) (sym (to_z-of_z w64 c.args.x.value (search rules)))
    (is_late d c.args.window m n before x more (g.S.AggStore.stored c.args.store.now) c.deref.result.now c.args.water t takes.step takes.water_is (told ∙ takes.asked)))

pub returns-clause-adds : goal.returns-clause-adds
returns-clause-adds g c =
    let q = c.requires.takes in
    record {
      number = omega (arith, c.late.ensures.number (window_at c.args.defs.now c.args.window) (stands_at c.args.defs.now c.args.window q.4.stood.timed));
      capacity = c.late.ensures.work.capacity;
    }

pub returns-clause-owed : goal.returns-clause-owed
returns-clause-owed g c =
    let q = c.requires.takes in
    let w = window_at c.args.defs.now c.args.window in
    omega (arith, c.late.ensures.number w (stands_at c.args.defs.now c.args.window q.4.stood.timed), told_number w c.args.x.time c.args.water q.0 c.args.self.now.formers q.4.water_is q.4.asked)

pub returns-clause-cost : goal.returns-clause-cost
returns-clause-cost g c =
    let q = c.requires.takes in
    let d = c.args.defs.now in
    let work = timed_work (window_kind d c.args.window) (g.S.AggStore.stored c.args.store.now).reach (timed_at d c.args.window q.4.stood.timed) in
    record {
      work = subst (λ k. c.late.new.steps ≤ c.args.steps.now + k * (vec_len c.late.new.out - vec_len c.args.out.now)) (sym work) c.late.ensures.work.cost;
      credit = search rules;
    }

-- it misses none of them where the tuple comes behind what is complete
pub returns-clause-ahead : goal.returns-clause-ahead
returns-clause-ahead g c = λ m n before more takes behind ahead.
    let d = c.args.defs.now in
    let t = takes.stood.timed in
    let kind = window_kind d c.args.window in
    let kinds = takes.step.held.may_leave.kinds in
    let x = c.args.x in
    let stored = (taken_in d c.args.window n before x more (g.S.AggStore.stored c.args.store.now) t takes.step.comes).0 in
    let same = tuple_stays d.windows c.args.window (window_at d c.args.window) before kinds (stands_at d c.args.window t) (timed_at d c.args.window t) takes.step.store takes.step.held.sliced (g.S.AggStore.stored c.args.store.now) x stored.put in
    let lane : c.args.self.now.lane ≡ c.self.inside.lane = sym (ap (λ (p : Timed _). p.lane) c.self.view_is) in
    c.touched.ensures.knows_all kind c.args.water before (g.S.AggStore.stored c.args.store.now) same behind
    (subst (λ (l : Laned _). Knows g.M.Partial.of_values kind c.args.water before l) lane (subst (λ k. Knows g.M.Partial.of_values kind k before c.args.self.now.lane) takes.water_is takes.stood.knows))
    (subst (λ (l : Laned _). MissesNoSlice kind c.args.water before l) lane ahead)
