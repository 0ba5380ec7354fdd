-- The marks from the last one up to the time on are left.
use Rattle.std.proofs.Common.{◌≡◌, ◌∙◌, ◌+◌, arith, rules, subst, sym}
use Rattle.std.specs.Prelude.{nat_le}
use Rattle.std.specs.List.{filter}
use Rattle.std.specs.List.Sorted.{IsNonDecreasing}
use Rattle.std.proofs.lemmas.Fn.{filter_same}
use Rattle.stream_base.specs.Places.{IsPlaceOf}
use Rattle.slice_lists.proofs.LeaveFacts.{last_left, last_read_is, none_to_leave}
use Rattle.slice_lists.proofs.PlaceFacts.{marks_do_not_fall}
use Rattle.window_spans.proofs.edges.leave_marks.Goals as goal

pub marks_up_to-count-requires : goal.marks_up_to-count-requires
marks_up_to-count-requires c = subst IsNonDecreasing (sym c.deref.ensures.value) (marks_do_not_fall c.args.marks.now.items c.requires.rising)

pub returns-then-count-gt0-clause-left : goal.returns-then-count-gt0-clause-left
returns-then-count-gt0-clause-left c =
    let marks = c.args.marks.now.items in
    let count = c.marks_up_to-count.result in
    let last = c.index.result.now in
    let left : c.retain.new.self.items ≡ filter (λ m. nat_le last m) marks = filter_same _ (λ m. nat_le last m) _ (λ x b f' k. search rules) _ _ c.retain.ensures.filtered in
    let place : IsPlaceOf (λ m. m) marks (c.args.time + 1) count = subst (λ ms. IsPlaceOf (λ m. m) ms (c.args.time + 1) count) c.deref.ensures.value c.marks_up_to-count.ensures in
    left ∙ last_left marks c.args.time count place c.requires.rising c.if-count-gt0.true last (last_read_is marks count last (omega (arith, place.within)) c.index.ensures)

pub returns-else-count-gt0-clause-left : goal.returns-else-count-gt0-clause-left
returns-else-count-gt0-clause-left c =
    let count = c.marks_up_to-count.result in
    none_to_leave c.args.marks.now.items c.args.time count (subst (λ ms. IsPlaceOf (λ m. m) ms (c.args.time + 1) count) c.deref.ensures.value c.marks_up_to-count.ensures) c.requires.rising (omega (arith, c.if-count-gt0.false))
