-- The slices of the store part at the interval that the tuple enters, before it is in it and after.
use Rattle.std.proofs.Common.{◌≡◌, ◌≤◌, ◌∙◌, ◌∷◌, [], ap, refl, arith}
use Rattle.std.specs.Int.{w64}
use Rattle.std.proofs.lemmas.Int.{to_z-of_z}
use Rattle.std.specs.List.{All}
use Rattle.std.proofs.lemmas.List.Elements.{All-cons, All-filter, All-nil}
use Rattle.stream_base.specs.declared.kept.Kept.{Kept}
use Rattle.stream_base.specs.Model.Journal.{put_in_order}
use Rattle.stream_base.specs.Model.Moments.{kept_at}
use Rattle.agg_store.specs.Stored.{tuples_of}
use Rattle.window_spans.specs.Spans.{is_near, near_of, stands}
use Rattle.context_windows.specs.Marked.{FollowsMarks, holder_in}
use Rattle.slice_tests.specs.Together.{AreOfMarks}
use Rattle.context_windows.proofs.Enough.{holder_alike}
use Rattle.slice_tests.proofs.ContextFacts.{LiesBetween, edges_align, longer, marks_after_before, marks_stay, spans_lie, standing_lies, within_lies}
use Rattle.slice_tests.proofs.marks.MarksWindow.put.Goals as goal

pub before-requires-clause-aligned : goal.before-requires-clause-aligned
before-requires-clause-aligned g c =
    let d = c.args.self.now.defs in
    let store = c.reserve.new.self in
    let s = c.reserve-2.new.self in
    let h : AreOfMarks d store s = marks_stay d c.args.self.now.store store c.args.self.now.between s c.requires.together c.reserve.ensures.kept c.reserve-2.ensures.kept in
    let lie : All (LiesBetween store.marks) s.spans = spans_lie store.marks (tuples_of store) s h.follows in
    edges_align store.slices store.marks (λ e k. c.slices_part_at_edges.ensures d.windows store e c.is_cut.ensures k) _
    (standing_lies c.args.water (LiesBetween store.marks) (near_of 1 c.args.time s.spans) (All-filter (is_near 1 c.args.time) (LiesBetween store.marks) s.spans lie))

pub put-requires-2-clause-aligned : goal.put-requires-2-clause-aligned
put-requires-2-clause-aligned g c =
    let d = c.args.self.now.defs in
    let store = c.reserve.new.self in
    let s = c.before-2.new.self in
    let h : AreOfMarks d store c.reserve-2.new.self = marks_stay d c.args.self.now.store store c.args.self.now.between c.reserve-2.new.self c.requires.together c.reserve.ensures.kept c.reserve-2.ensures.kept in
    let f : FollowsMarks store.marks (tuples_of store) s = marks_after_before store.marks (tuples_of store) c.reserve-2.new.self s h.follows c.before-2.ensures.kept.spans c.before-2.ensures.marks c.before-2.ensures.kept.forgotten in
    let lie : All (LiesBetween store.marks) s.spans = spans_lie store.marks (tuples_of store) s f in
    let le : s.forgotten ≤ c.args.time = omega (arith, c.before-2.ensures.kept.forgotten ∙ c.reserve-2.ensures.kept.forgotten, c.requires.unsettled) in
    edges_align c.put.new.self.slices store.marks (λ e k. c.slices_part_at_edges.ensures d.windows c.put.new.self e c.is_cut-2.ensures (rw c.put.ensures.marks k)) _
    (All-filter (stands c.args.water) (LiesBetween store.marks) (holder_in c.args.time s.spans s.marks ∷ []) (All-cons (LiesBetween store.marks) (holder_in c.args.time s.spans s.marks) [] (within_lies c.args.time store.marks s.marks s.spans (holder_alike s.forgotten s.marks store.marks c.args.time f.known le) lie) (All-nil (LiesBetween store.marks))))

pub returns-clause-together : goal.returns-clause-together
returns-clause-together g c =
    let d = c.args.self.now.defs in
    let store = c.reserve.new.self in
    let s = c.before-2.new.self in
    let x : Kept = kept_at c.args.pos c.args.time c.args.value in
    let tuples : tuples_of c.put.new.self ≡ put_in_order (tuples_of c.reserve.new.self) x = c.put.ensures.tuples ∙ ap (λ v. put_in_order (tuples_of c.reserve.new.self) (kept_at c.args.pos c.args.time v)) (to_z-of_z w64 c.args.value c.ranges.value) in
    let h : AreOfMarks d store c.reserve-2.new.self = marks_stay d c.args.self.now.store store c.args.self.now.between c.reserve-2.new.self c.requires.together c.reserve.ensures.kept c.reserve-2.ensures.kept in
    let f : FollowsMarks store.marks (tuples_of store) s = marks_after_before store.marks (tuples_of store) c.reserve-2.new.self s h.follows c.before-2.ensures.kept.spans c.before-2.ensures.marks c.before-2.ensures.kept.forgotten in
    let le : s.forgotten ≤ c.args.time = omega (arith, c.before-2.ensures.kept.forgotten ∙ c.reserve-2.ensures.kept.forgotten, c.requires.unsettled) in
    record {
      sliced = c.put.ensures.sliced;
      follows = rw (c.put.ensures.marks, tuples) (c.put-2.ensures.follows store.marks (tuples_of store) x f le refl);
    }

pub returns-clause-few : goal.returns-clause-few
returns-clause-few g c =
    let x : Kept = kept_at c.args.pos c.args.time c.args.value in
    let tuples : tuples_of c.put.new.self ≡ put_in_order (tuples_of c.reserve.new.self) x = c.put.ensures.tuples ∙ ap (λ v. put_in_order (tuples_of c.reserve.new.self) (kept_at c.args.pos c.args.time v)) (to_z-of_z w64 c.args.value c.ranges.value) in
    rw tuples (longer c.args.self.now.store c.reserve.new.self x c.args.pos c.reserve.ensures.kept c.requires.few)
