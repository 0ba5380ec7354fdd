-- Each change folds the tuples of an instance as they were and as they are; and those leave that none shifts.
use Rattle.std.proofs.Common.{◌≡◌, ◌∙◌, ◌≤◌, ◌+◌, ◌-◌, ◌*◌, ap, arith, subst, sym, vec_len, zero-le}
use Rattle.std.specs.Prelude.{min}
use Rattle.stream_base.specs.declared.def.Def.{Def}
use Rattle.window_laws.specs.After.{with_tuple}
use Rattle.count_shift.specs.Counting.{count_of}
use Rattle.key_parts.specs.Calls.{window_at, window_kind}
use Rattle.key_parts.specs.Work.{change_work}
use Rattle.time_parts.specs.Counted.{Counts}
use Rattle.time_parts.proofs.CountFacts.{counted_work, counts_at, counts_put, counts_without, follows_from, next_of_lists, told_by_put}
use Rattle.time_parts.proofs.count_part.CountPartKeyPart.put.Given as given
use Rattle.time_parts.proofs.count_part.CountPartKeyPart.put.Goals as goal

-- how many tuples an instance selects
counts_of : (g : given.Over) (c : goal.After-drop_settled g) → count_of c.window_at-def.result.kind ≡ count_of (window_kind c.args.defs.now c.args.window)
counts_of g c = ap (λ (w : Def). count_of w.kind) c.window_at-def.ensures.stands

pub returns-clause-stands : goal.returns-clause-stands
returns-clause-stands g c = λ m n before more t.
    let d = c.args.defs.now in
    let x = c.args.x in
    (counts_without d c.args.window (with_tuple m x) c.put.new.self c.drop_settled.new.self c.count_of.result c.saturating_sub-settled_by.result (c.count_of.ensures.value ∙ counts_of g c)
    (omega (arith, c.saturating_sub-settled_by.ensures, c.lateness.ensures.value, t.water_is)) c.drop_settled.ensures.follows
    (counts_put d c.args.window m x c.self.inside.lane c.put.new.self (count_of c.window_at-def.result.kind) (counts_of g c) t.step.in_time c.put.ensures.follows (subst (Counts d c.args.window m) (sym c.self.view_is) t.stood)))

pub returns-clause-changes : goal.returns-clause-changes
returns-clause-changes g c = λ m n before more t.
    let d = c.args.defs.now in
    let w = window_at d c.args.window in
    let x = c.args.x in
    let follows = follows_from d c.args.window m c.self.inside.lane c.args.self.now (count_of c.window_at-def.result.kind) (min c.args.x.time c.args.water) c.self.view_is (counts_of g c) (omega (arith, t.step.in_time, t.water_is)) t.stood in
    (told_by_put c.args.window c.args.key.now w c.window_at-def.result m x c.args.water c.args.out.now.items c.put.new.out.items t.water_is c.window_at-def.ensures.stands
    (c.put.ensures.none_gone m.kept m.marks follows) (c.put.ensures.changes m.kept m.marks follows (next_of_lists m c.args.x.position t.step.lists)))

pub returns-clause-cost : goal.returns-clause-cost
returns-clause-cost g c =
    let q = c.requires.takes in
    let d = c.args.defs.now in
    let work : 2 * count_of c.window_at-def.result.kind ≡ change_work (window_kind d c.args.window) (g.S.AggStore.stored c.args.store.now).reach =
    ap (λ (w : Def). 2 * count_of w.kind) c.window_at-def.ensures.stands ∙ sym (counted_work (window_kind d c.args.window) (g.S.AggStore.stored c.args.store.now).reach (counts_at d c.args.window q.4.stood.counts)) in
    record {
      work = subst (λ k. c.put.new.steps ≤ c.args.steps.now + k * (vec_len c.put.new.out - vec_len c.args.out.now)) work c.put.ensures.cost;
      credit = zero-le;
    }
