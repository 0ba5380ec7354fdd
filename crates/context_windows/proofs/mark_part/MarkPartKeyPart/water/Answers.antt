-- In the intervals that are due the store holds all that was kept.
use Rattle.std.proofs.Common.{◌∙◌, ◌++◌, ◌≤◌, ◌-◌, arith, ap}
use Rattle.stream_base.specs.Laws.{completions}
use Rattle.key_parts.specs.Calls.{window_at}
use Rattle.window_spans.specs.Spans.{due_of}
use Rattle.context_windows.specs.Marked.{marks_window}
use Rattle.context_windows.proofs.Edges.{due_edged, edged_aligned, marks_held, parts_at_edges}
use Rattle.context_windows.proofs.OfMarks.{marks_window_is, spans_edged, stretches_held}
use Rattle.context_windows.proofs.Rest.{rest_held, rest_windows}
use Rattle.context_windows.proofs.mark_part.MarkPartKeyPart.water.Goals as goal

pub water-requires-clause-aligned : goal.water-requires-clause-aligned
water-requires-clause-aligned g c =
    let d = c.args.defs.now in
    let s = c.requires.moves.under.key in
    let store = (g.S.AggStore.stored c.args.store.now) in
    let spans = c.args.self.now.windows.spans in
    edged_aligned (s.0).marks store.slices (due_of c.args.old c.args.new spans)
    (parts_at_edges d.windows (s.0).marks store (rest_windows d s.0 s.1 store (rest_held d s.0 s.1 store (s.2).held)) (marks_held d s.0 s.1 store (s.2).held))
    (due_edged (s.0).marks c.args.old c.args.new spans (spans_edged (s.0).marks (s.0).kept c.args.self.now.windows (s.2).stood.follows))

pub returns-clause-changes : goal.returns-clause-changes
returns-clause-changes g c = λ m n s.
    let d = c.args.defs.now in
    let w = window_at d c.args.window in
    let late : m.water - d.lateness ≤ c.args.old = omega (arith, s.water_is) in
    let open_ : c.args.self.now.windows.forgotten ≤ c.args.old = omega (arith, s.stood.bounded, late) in
    c.water.ensures.changes m s.stood.follows open_ s.water_is
    (stretches_held d c.args.window s.stood.marks m n (g.S.AggStore.stored c.args.store.now) (rest_held d m n (g.S.AggStore.stored c.args.store.now) s.held) c.args.old late)
    ∙ ap (λ def. c.args.out.now.items ++ completions c.args.key.now m c.args.new (c.args.window, def)) (ap marks_window c.func_at-func.ensures ∙ marks_window_is w s.stood.marks.kind)
