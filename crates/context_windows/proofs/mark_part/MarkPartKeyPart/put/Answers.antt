-- The store holds all of the interval that the tuple enters.
use Rattle.std.proofs.Common.{◌∙◌, ◌++◌, ◌≤◌, ◌+◌, ◌-◌, ◌*◌, arith, ap, refl, subst, sym, drop, vec_len, zero-le}
use Rattle.key_parts.specs.Calls.{window_at}
use Rattle.window_laws.specs.After.{with_tuple}
use Rattle.context_windows.specs.Marked.{FollowsMarks, RemembersHolder, entered_at, marks_window}
use Rattle.context_windows.specs.Spanned.{changes_of}
use Rattle.context_windows.proofs.Enough.{holder_alike}
use Rattle.context_windows.proofs.Edges.{edged_aligned, entered_edged, marks_with, parts_at_edges}
use Rattle.context_windows.proofs.OfMarks.{marks_window_is, marks_work, no_events, spans_edged, stretches_held}
use Rattle.context_windows.proofs.Rest.{is_window, left_with, rest_windows, rest_with}
use Rattle.context_windows.proofs.mark_part.MarkPartKeyPart.put.Goals as goal

pub put-requires-clause-aligned : goal.put-requires-clause-aligned
put-requires-clause-aligned g c =
    let d = c.args.defs.now in
    let w = window_at d c.args.window in
    let x = c.args.x in
    let t = c.requires.takes in
    let p = c.args.self.now.windows in
    let store = (g.S.AggStore.stored c.args.store.now) in
    let at = (t.4).stood.marks in
    let rest = rest_with d t.0 t.1 t.2 x t.3 store w (is_window d c.args.window at.within) (no_events w.kind at.kind) (t.4).step in
    let has = marks_with d t.0 t.1 t.2 x t.3 store w (is_window d c.args.window at.within) (no_events w.kind at.kind) (t.4).step in
    let open_ : p.forgotten ≤ c.args.x.time = omega (arith, (t.4).stood.bounded, (t.4).step.in_time) in
    let marks = (t.0).marks in
    edged_aligned marks store.slices (entered_at c.args.x.time c.args.water p)
    (parts_at_edges d.windows marks store (rest_windows d (with_tuple t.0 x) t.1 store rest) has)
    (entered_edged marks c.args.x.time c.args.water p (spans_edged marks (t.0).kept p (t.4).stood.follows) (holder_alike p.forgotten p.marks marks c.args.x.time (t.4).stood.follows.known open_))

pub returns-clause-stands : goal.returns-clause-stands
returns-clause-stands g c = λ m n before more t.
    let d = c.args.defs.now in
    let w = window_at d c.args.window in
    let at = t.stood.marks in
    let x = c.args.x in
    let open_ : c.args.self.now.windows.forgotten ≤ c.args.x.time = omega (arith, t.stood.bounded, t.step.in_time) in
    record {
      marks = t.stood.marks;
      shown = t.stood.shown;
      follows = c.put.ensures.follows m.marks m.kept x t.stood.follows open_ refl;
      left = subst (λ l. FollowsMarks m.marks l c.put.new.self) (left_with d m n before x more (g.S.AggStore.stored c.args.store.now) w (is_window d c.args.window at.within) (no_events w.kind at.kind) t.step) (c.put.ensures.follows m.marks (drop n m.kept) x t.stood.left open_ refl);
      bounded = subst (λ n. n ≤ m.water - d.lateness) (sym c.put.ensures.takes.forgotten) t.stood.bounded;
    }

pub returns-clause-changes : goal.returns-clause-changes
returns-clause-changes g c = λ m n before more t.
    let d = c.args.defs.now in
    let w = window_at d c.args.window in
    let x = c.args.x in
    let p = c.args.self.now.windows in
    let at = t.stood.marks in
    let late : m.water - d.lateness ≤ c.args.x.time = omega (arith, t.step.in_time) in
    let open_ : c.args.self.now.windows.forgotten ≤ c.args.x.time = omega (arith, t.stood.bounded, late) in
    let rest = rest_with d m n before x more (g.S.AggStore.stored c.args.store.now) w (is_window d c.args.window at.within) (no_events w.kind at.kind) t.step in
    let remembers : RemembersHolder c.func_at-func.result c.args.x.time c.args.water m.marks m.kept p =
    subst (λ f. RemembersHolder f c.args.x.time c.args.water m.marks m.kept p) (sym c.func_at-func.ensures) (subst (λ water. RemembersHolder w.func c.args.x.time water m.marks m.kept p) t.water_is t.asked.remembers) in
    c.put.ensures.changes m x t.stood.follows open_ refl t.water_is remembers
    (stretches_held d c.args.window at (with_tuple m x) n (g.S.AggStore.stored c.args.store.now) rest c.args.x.time late)
    ∙ ap (λ def. c.args.out.now.items ++ changes_of c.args.key.now m (with_tuple m x) (c.args.window, def)) (ap marks_window c.func_at-func.ensures ∙ marks_window_is w at.kind)

pub returns-clause-owed : goal.returns-clause-owed
returns-clause-owed g c =
    let t = c.requires.takes in
    let d = c.args.defs.now in
    let p = c.args.self.now.windows in
    let m = t.0 in
    let open_ : p.forgotten ≤ c.args.x.time = omega (arith, (t.4).stood.bounded, (t.4).step.in_time) in
    c.put.ensures.owed m.marks m.kept (t.4).stood.follows open_
    (subst (λ f. RemembersHolder f c.args.x.time c.args.water m.marks m.kept p) (sym c.func_at-func.ensures)
    (subst (λ water. RemembersHolder (window_at d c.args.window).func c.args.x.time water m.marks m.kept p) (t.4).water_is (t.4).asked.remembers))

pub returns-clause-cost : goal.returns-clause-cost
returns-clause-cost g c =
    let work = marks_work (window_at c.args.defs.now c.args.window).kind (g.S.AggStore.stored c.args.store.now).reach (c.requires.takes.4).stood.marks.kind in
    record {
      work = subst (λ k. c.put.new.steps ≤ c.args.steps.now + k * (vec_len c.put.new.out - vec_len c.args.out.now)) (sym work) c.put.ensures.tells.cost;
      credit = zero-le;
    }
