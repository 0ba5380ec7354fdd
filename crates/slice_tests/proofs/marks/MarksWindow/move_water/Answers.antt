-- The slices of the store part at the intervals that become complete.
use Rattle.std.proofs.lemmas.List.Elements.{All-filter}
use Rattle.agg_store.specs.Stored.{tuples_of}
use Rattle.window_spans.specs.Spans.{is_due}
use Rattle.slice_tests.proofs.ContextFacts.{LiesBetween, edges_align, spans_lie}
use Rattle.slice_tests.proofs.marks.MarksWindow.move_water.Goals as goal

pub water-requires-clause-aligned : goal.water-requires-clause-aligned
water-requires-clause-aligned g c =
    let d = c.args.self.now.defs in
    let store = c.args.self.now.store in
    let s = c.args.self.now.between in
    edges_align store.slices store.marks (λ e k. c.slices_part_at_edges.ensures d.windows store e c.is_cut.ensures k) _
    (All-filter (is_due c.args.old c.args.new) (LiesBetween store.marks) s.spans (spans_lie store.marks (tuples_of store) s c.requires.follows))
