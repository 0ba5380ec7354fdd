-- The slices and marks from the time on are left.
use Rattle.std.proofs.Common.{◌∙◌, ap, sym}
use Rattle.stream_base.specs.Model.Slices.{runs_of}
use Rattle.slice_lists.specs.Slices.{joined}
use Rattle.slice_lists.proofs.LeaveFacts.{from_place, left_sliced, many_before}
use Rattle.slice_store.proofs.store.SliceStore.drop_settled.Goals as goal

pub returns-clause-slices : goal.returns-clause-slices
returns-clause-slices g c =
    rw (← c.self.view_is) (c.drop_first.ensures.slices ∙ sym (from_place c.self.inside.runs.slices c.args.time c.before-count.result c.before-count.ensures.place))

pub returns-clause-sliced : goal.returns-clause-sliced
returns-clause-sliced g c =
    let s = c.self.inside in
    let count = c.before-count.result in
    rw (← c.self.view_is)
    (λ windows e.
    c.drop_first.ensures.slices
    ∙ left_sliced windows s.marks.times c.keep_last.new.self.times s.runs.slices c.args.time count c.before-count.ensures.place c.before-count.ensures.holds.ordered (rw (← c.self.view_is) at c.requires) c.keep_last.ensures.cuts e
    ∙ ap (λ l. runs_of windows c.keep_last.new.self.times (joined l)) (sym c.drop_first.ensures.slices))

pub returns-clause-cost : goal.returns-clause-cost
returns-clause-cost g c =
    let cost = c.take_first.ensures.cost in
    rw (← c.self.view_is)
    (rw (many_before c.self.inside.runs.slices c.args.time c.before-count.result c.before-count.ensures.place) cost)
