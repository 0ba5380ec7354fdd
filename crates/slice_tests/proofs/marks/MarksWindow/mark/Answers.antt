-- The slices of the store part at the interval that the mark parts, and at the mark.
use Rattle.std.proofs.Common.{◌≤◌, length, sym, subst, arith}
use Rattle.std.specs.BTreeSet.{insert_key}
use Rattle.std.specs.Ordering.{nat_cmp}
use Rattle.agg_store.specs.Stored.{tuples_of}
use Rattle.context_windows.specs.Marked.{FollowsMarks}
use Rattle.slice_tests.specs.Together.{AreOfMarks}
use Rattle.slice_tests.proofs.ContextFacts.{as_many, edges_align, holds_all, marked_lie, marks_stay, spans_lie}
use Rattle.slice_tests.proofs.marks.MarksWindow.mark.Goals as goal

pub mark-requires-2-clause-aligned : goal.mark-requires-2-clause-aligned
mark-requires-2-clause-aligned g c =
    let d = c.args.self.now.defs in
    let store = c.reserve.new.self in
    let s = c.reserve-2.new.self in
    let h : AreOfMarks d store s = marks_stay d c.args.self.now.store store c.args.self.now.between s c.requires.together c.reserve.ensures.kept c.reserve-2.ensures.kept in
    edges_align c.mark.new.self.slices (insert_key nat_cmp store.marks c.args.time) (λ e k. c.slices_part_at_edges.ensures d.windows c.mark.new.self e c.is_cut.ensures (rw c.mark.ensures.marks k)) _
    (marked_lie c.args.time store.marks s.spans (spans_lie store.marks (tuples_of store) s h.follows))

pub returns-clause-together : goal.returns-clause-together
returns-clause-together g c =
    let d = c.args.self.now.defs in
    let store = c.reserve.new.self in
    let s = c.reserve-2.new.self in
    let h : AreOfMarks d store s = marks_stay d c.args.self.now.store store c.args.self.now.between s c.requires.together c.reserve.ensures.kept c.reserve-2.ensures.kept in
    let f : FollowsMarks store.marks (tuples_of c.mark.new.self) s = subst (λ l. FollowsMarks store.marks l s) (sym c.mark.ensures.tuples) h.follows in
    let le : s.forgotten ≤ c.args.time = omega (arith, c.reserve-2.ensures.kept.forgotten, c.requires.unsettled) in
    let held = holds_all c.args.time store.marks c.mark.new.self in
    record {
      sliced = c.mark.ensures.sliced;
      follows = subst (λ m. FollowsMarks m (tuples_of c.mark.new.self) c.mark-2.new.self) (sym c.mark.ensures.marks) (c.mark-2.ensures.follows store.marks (tuples_of c.mark.new.self) f le held);
    }

pub returns-clause-few : goal.returns-clause-few
returns-clause-few g c =
    let few : length (tuples_of c.mark.new.self) ≤ c.args.pos = as_many c.args.self.now.store c.reserve.new.self c.mark.new.self c.args.pos c.reserve.ensures.kept c.mark.ensures.tuples c.requires.few in
    omega (arith, few)
