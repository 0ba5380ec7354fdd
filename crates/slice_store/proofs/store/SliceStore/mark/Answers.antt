-- The slice that is across the mark, if there is one, is split.
use Rattle.std.proofs.Common.{◌∙◌, ap, arith, length, sym}
use Rattle.stream_base.specs.Model.Slices.{runs_of}
use Rattle.slice_lists.specs.Slices.{joined}
use Rattle.slice_lists.proofs.MarkFacts.{across_alone, marked_sliced, none_any, none_split, one_any, one_split, same_tuples}
use Rattle.slice_store.proofs.store.SliceStore.mark.Goals as goal

pub invariant_of-self : goal.invariant_of-self
invariant_of-self g c =
    record { holds = c.split.ensures.follow.holds; rising = c.add.ensures.rising; partials = c.split.ensures.follow.stand }

pub invariant_of-self-in-None : goal.invariant_of-self-in-None
invariant_of-self-in-None g c =
    record { holds = c.self.invariant.holds; rising = c.add.ensures.rising; partials = c.self.invariant.partials }

pub returns-in-Some-clause-sliced : goal.returns-in-Some-clause-sliced
returns-in-Some-clause-sliced g c =
    let s = c.self.inside in
    let order = c.across.ensures.holds.ordered in
    let is = c.split.ensures.follow.slices ∙ one_split s.runs.slices c.args.time order c.in-Some.at c.in-Some.ensures.some in
    marked_sliced c.args.defs.now.windows s.marks.times s.runs.slices c.split.new.runs.slices c.args.time order ((rw (← c.self.view_is) at c.requires).sliced) is
    ∙ ap (λ ms. runs_of c.args.defs.now.windows ms (joined c.split.new.runs.slices)) (sym c.add.ensures.added)

pub returns-in-Some-clause-tuples : goal.returns-in-Some-clause-tuples
returns-in-Some-clause-tuples g c =
    let s = c.self.inside in
    let order = c.across.ensures.holds.ordered in
    let is = c.split.ensures.follow.slices ∙ one_split s.runs.slices c.args.time order c.in-Some.at c.in-Some.ensures.some in
    rw (← c.self.view_is) (same_tuples c.args.defs.now.windows s.marks.times s.runs.slices c.split.new.runs.slices c.args.time order ((rw (← c.self.view_is) at c.requires).sliced) is)

pub returns-in-Some-clause-slices : goal.returns-in-Some-clause-slices
returns-in-Some-clause-slices g c =
    rw (← c.self.view_is) (c.split.ensures.follow.slices ∙ one_split c.self.inside.runs.slices c.args.time c.across.ensures.holds.ordered c.in-Some.at c.in-Some.ensures.some)

pub returns-in-Some-clause-answer : goal.returns-in-Some-clause-answer
returns-in-Some-clause-answer g c =
    rw (← c.self.view_is) (one_any c.self.inside.runs.slices c.args.time c.across.ensures.holds.ordered c.in-Some.at c.in-Some.ensures.some)

pub returns-in-Some-clause-cost : goal.returns-in-Some-clause-cost
returns-in-Some-clause-cost g c =
    rw (← c.self.view_is)
    (omega (arith, c.split.ensures.cost, ap length (across_alone c.self.inside.runs.slices c.args.time c.across.ensures.holds.ordered c.in-Some.at c.in-Some.ensures.some)))

pub returns-in-None-clause-sliced : goal.returns-in-None-clause-sliced
returns-in-None-clause-sliced g c =
    let s = c.self.inside in
    marked_sliced c.args.defs.now.windows s.marks.times s.runs.slices s.runs.slices c.args.time c.across.ensures.holds.ordered ((rw (← c.self.view_is) at c.requires).sliced) (sym (none_split c.args.time s.runs.slices c.in-None.ensures.none))
    ∙ ap (λ ms. runs_of c.args.defs.now.windows ms (joined s.runs.slices)) (sym c.add.ensures.added)

pub returns-in-None-clause-slices : goal.returns-in-None-clause-slices
returns-in-None-clause-slices g c = rw (← c.self.view_is) (sym (none_split c.args.time c.self.inside.runs.slices c.in-None.ensures.none))

pub returns-in-None-clause-answer : goal.returns-in-None-clause-answer
returns-in-None-clause-answer g c = rw (← c.self.view_is) (none_any c.self.inside.runs.slices c.args.time c.across.ensures.holds.ordered c.in-None.ensures.none)
