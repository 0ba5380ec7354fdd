-- Slices part at all edges, and in the interval that is asked the store holds all.
use Rattle.std.proofs.Common.{◌≤◌, ◌-◌, arith, subst, sym}
use Rattle.key_parts.specs.Calls.{window_at}
use Rattle.context_windows.specs.Marked.{RemembersHolder, asked_at}
use Rattle.context_windows.proofs.Edges.{asked_edged, edged_aligned, marks_held, parts_at_edges}
use Rattle.context_windows.proofs.OfMarks.{spans_edged, stretches_held}
use Rattle.context_windows.proofs.Rest.{rest_held, rest_windows}
use Rattle.context_windows.proofs.mark_part.MarkPartKeyPart.before.Goals as goal

pub before-requires-clause-aligned : goal.before-requires-clause-aligned
before-requires-clause-aligned g c =
    let d = c.args.defs.now in
    let s = c.requires.stands.key in
    let store = (g.S.AggStore.stored c.args.store.now) in
    let spans = c.args.self.now.windows.spans in
    edged_aligned (s.0).marks store.slices (asked_at c.args.time c.args.water spans)
    (parts_at_edges d.windows (s.0).marks store (rest_windows d s.0 s.1 store (rest_held d s.0 s.1 store (s.2).held)) (marks_held d s.0 s.1 store (s.2).held))
    (asked_edged (s.0).marks c.args.time c.args.water spans (spans_edged (s.0).marks (s.0).kept c.args.self.now.windows (s.2).stood.follows))

pub returns-clause-asked : goal.returns-clause-asked
returns-clause-asked g c = λ m n s.
    let d = c.args.defs.now in
    let w = window_at d c.args.window in
    let late : m.water - d.lateness ≤ c.args.time = omega (arith, s.water_is, c.requires.accepted.accepted) in
    let open_ : c.args.self.now.windows.forgotten ≤ c.args.time = omega (arith, s.stood.bounded, late) in
    let held = stretches_held d c.args.window s.stood.marks m n (g.S.AggStore.stored c.args.store.now) (rest_held d m n (g.S.AggStore.stored c.args.store.now) s.held) c.args.time late in
    record {
      remembers = subst (λ f. RemembersHolder f c.args.time m.water m.marks m.kept c.before-2.new.self) c.func_at-func.ensures
          (subst (λ water. RemembersHolder c.func_at-func.result c.args.time water m.marks m.kept c.before-2.new.self) (sym s.water_is) (c.before-2.ensures.remembers m.marks m.kept s.stood.follows open_ held));
    }
