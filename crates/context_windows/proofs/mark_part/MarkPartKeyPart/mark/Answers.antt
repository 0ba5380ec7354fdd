-- The store holds all of the interval that the mark parts.
use Rattle.std.proofs.Common.{◌∙◌, ◌++◌, ◌≤◌, ◌-◌, arith, ap, drop}
use Rattle.std.specs.BTreeSet.{insert_key}
use Rattle.std.specs.Ordering.{nat_cmp}
use Rattle.key_parts.specs.Calls.{window_at}
use Rattle.window_laws.specs.After.{with_mark}
use Rattle.context_windows.specs.Marked.{marks_window, parted_of, with_parts}
use Rattle.context_windows.specs.Spanned.{changes_of}
use Rattle.context_windows.proofs.Edges.{edged_aligned, marks_marked, parts_at_edges, parts_edged}
use Rattle.context_windows.proofs.OfMarks.{left_held, marks_window_is, spans_edged, stretches_held}
use Rattle.context_windows.proofs.Rest.{rest_marked, rest_windows}
use Rattle.context_windows.proofs.mark_part.MarkPartKeyPart.mark.Goals as goal

pub mark-requires-clause-aligned : goal.mark-requires-clause-aligned
mark-requires-clause-aligned g c =
    let d = c.args.defs.now in
    let t = c.requires.takes in
    let time = c.args.time in
    let store = (g.S.AggStore.stored c.args.store.now) in
    let p = c.args.self.now.windows in
    edged_aligned (insert_key nat_cmp (t.0).marks time) store.slices (with_parts time (parted_of time p.spans))
    (parts_at_edges d.windows (insert_key nat_cmp (t.0).marks time) store (rest_windows d t.0 t.1 store (rest_marked d t.0 t.1 t.2 time store (t.3).step)) (marks_marked d t.0 t.1 t.2 time store (t.3).step))
    (parts_edged (t.0).marks time p.spans (spans_edged (t.0).marks (t.0).kept p (t.3).stood.follows))

pub returns-clause-stands : goal.returns-clause-stands
returns-clause-stands g c = λ m n before t.
    let d = c.args.defs.now in
    let late : m.water - d.lateness ≤ c.args.time = omega (arith, t.step.in_time) in
    let open_ : c.args.self.now.windows.forgotten ≤ c.args.time = omega (arith, t.stood.bounded, late) in
    let held = stretches_held d c.args.window t.stood.marks m n (g.S.AggStore.stored c.args.store.now) (rest_marked d m n before c.args.time (g.S.AggStore.stored c.args.store.now) t.step) c.args.time late in
    record {
      marks = t.stood.marks;
      shown = t.stood.shown;
      follows = c.drop_needless.ensures.follows (insert_key nat_cmp m.marks c.args.time) m.kept (c.mark.ensures.follows m.marks m.kept t.stood.follows open_ held);
      left = c.drop_needless.ensures.follows (insert_key nat_cmp m.marks c.args.time) (drop n m.kept) (c.mark.ensures.follows m.marks (drop n m.kept) t.stood.left open_ (left_held d c.args.window t.stood.marks m n (g.S.AggStore.stored c.args.store.now) t.step.held.may_leave c.args.time late held));
      bounded = omega (arith, c.drop_needless.ensures.forgotten, c.mark.ensures.takes.forgotten, t.stood.bounded, t.water_is, c.saturating_sub.ensures, c.lateness.ensures.value);
    }

pub returns-clause-changes : goal.returns-clause-changes
returns-clause-changes g c = λ m n before t.
    let d = c.args.defs.now in
    let w = window_at d c.args.window in
    let late : m.water - d.lateness ≤ c.args.time = omega (arith, t.step.in_time) in
    let open_ : c.args.self.now.windows.forgotten ≤ c.args.time = omega (arith, t.stood.bounded, late) in
    let held = stretches_held d c.args.window t.stood.marks m n (g.S.AggStore.stored c.args.store.now) (rest_marked d m n before c.args.time (g.S.AggStore.stored c.args.store.now) t.step) c.args.time late in
    c.mark.ensures.changes m t.stood.follows open_ t.water_is held
    ∙ ap (λ def. c.args.out.now.items ++ changes_of c.args.key.now m (with_mark m c.args.time) (c.args.window, def)) (ap marks_window c.func_at-func.ensures ∙ marks_window_is w t.stood.marks.kind)
