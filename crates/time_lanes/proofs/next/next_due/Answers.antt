-- The next interval begins at the first one that holds the first tuple from the start on.
use Rattle.std.proofs.Common.{◌∙◌, ap, max, sym, arith, rules, subst}
use Rattle.slice_lists.specs.Runs.{IsAligned}
use Rattle.slice_lists.proofs.SliceOrder.{times_of_order}
use Rattle.time_lanes.proofs.NextFacts.{due_next, low_in_time, none_due_here, none_due_next}
use Rattle.time_lanes.proofs.next.next_due.Goals as goal

pub returns-in_err-slice-clause-none : goal.returns-in_err-slice-clause-none
returns-in_err-slice-clause-none g c =
    let s = (g.S.AggStore.stored c.args.store.now) in
    let none = none_due_next c.args.span.now.length c.args.span.now.slide s c.args.from c.args.new c.args.span.now.within c.slice_from.ensures.holds (subst (IsAligned s.slices) (sym c.requires.multiple.1) (c.requires.parted.starts (times_of_order s.slices c.slice_from.ensures.holds.slices.ordered) c.requires.multiple.0)) (sym c.in_err-slice.was ∙ c.slice_from.ensures.first) in
    search (rules, none)

pub next_start-requires : goal.next_start-requires
next_start-requires g c =
    omega (arith, low_in_time (g.S.AggStore.stored c.args.store.now).slices c.slice_from.ensures.holds.slices c.args.from c.in_ok-slice.slice (sym c.in_ok-slice.was ∙ c.slice_from.ensures.first))

pub overflow_add-low : goal.overflow_add-low
overflow_add-low g c =
    omega (arith, low_in_time (g.S.AggStore.stored c.args.store.now).slices c.slice_from.ensures.holds.slices c.args.from c.in_ok-slice.slice (sym c.in_ok-slice.was ∙ c.slice_from.ensures.first), c.max-low.ensures, c.next_start.ensures.within, c.args.span.now.within.short, c.requires.early)

pub returns-then-low-span-clause-some : goal.returns-then-low-span-clause-some
returns-then-low-span-clause-some g c =
    let s = (g.S.AggStore.stored c.args.store.now) in
    due_next c.args.span.now.length c.args.span.now.slide s c.args.from c.args.new c.requires.multiple.0 c.requires.multiple.1 c.args.span.now.within c.slice_from.ensures.holds (subst (IsAligned s.slices) (sym c.requires.multiple.1) (c.requires.parted.starts (times_of_order s.slices c.slice_from.ensures.holds.slices.ordered) c.requires.multiple.0)) c.in_ok-slice.slice (sym c.in_ok-slice.was ∙ c.slice_from.ensures.first) (omega (arith, c.next_start.ensures.start, c.next_start.ensures.within)) c.max-low.result (c.max-low.ensures ∙ ap (max c.args.from) c.next_start.ensures.start) c.if-low-span.true

pub returns-else-low-span-clause-none : goal.returns-else-low-span-clause-none
returns-else-low-span-clause-none g c =
    let s = (g.S.AggStore.stored c.args.store.now) in
    none_due_here c.args.span.now.length c.args.span.now.slide s c.args.from c.args.new c.requires.multiple.0 c.requires.multiple.1 c.args.span.now.within c.slice_from.ensures.holds (subst (IsAligned s.slices) (sym c.requires.multiple.1) (c.requires.parted.starts (times_of_order s.slices c.slice_from.ensures.holds.slices.ordered) c.requires.multiple.0)) c.in_ok-slice.slice (sym c.in_ok-slice.was ∙ c.slice_from.ensures.first) (omega (arith, c.next_start.ensures.start, c.next_start.ensures.within)) c.max-low.result (c.max-low.ensures ∙ ap (max c.args.from) c.next_start.ensures.start) c.if-low-span.false
