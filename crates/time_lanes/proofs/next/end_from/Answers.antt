-- The first interval is the first one that holds the first tuple from the start on.
use Rattle.std.proofs.Common.{◌∙◌, ap, max, sym, arith, subst, ◌+◌}
use Rattle.slice_lists.specs.Runs.{IsAligned}
use Rattle.slice_lists.proofs.SliceOrder.{times_of_order}
use Rattle.time_lanes.proofs.NextFacts.{ends_at, low_in_time, none_ends}
use Rattle.time_lanes.proofs.next.end_from.Goals as goal

pub next_start-requires : goal.next_start-requires
next_start-requires g c =
    omega (arith, low_in_time (g.S.AggStore.stored c.args.store.now).slices c.in-Some.ensures.holds.slices c.args.from c.in-Some.slice c.in-Some.ensures.first)

pub overflow_add-result : goal.overflow_add-result
overflow_add-result g c =
    omega (arith, low_in_time (g.S.AggStore.stored c.args.store.now).slices c.in-Some.ensures.holds.slices c.args.from c.in-Some.slice c.in-Some.ensures.first, c.max.ensures, c.next_start.ensures.within, c.args.span.now.within.short, c.requires.early)

pub returns-in-Some : goal.returns-in-Some
returns-in-Some g c =
    let s = (g.S.AggStore.stored c.args.store.now) in
    ends_at c.args.span.now.length c.args.span.now.slide s c.args.from c.args.from c.requires.multiple.0 c.requires.multiple.1 c.args.span.now.within c.in-Some.ensures.holds (subst (IsAligned s.slices) (sym c.requires.multiple.1) (c.requires.parted.starts (times_of_order s.slices c.in-Some.ensures.holds.slices.ordered) c.requires.multiple.0)) c.in-Some.slice c.in-Some.ensures.first (omega (arith, c.next_start.ensures.start, c.next_start.ensures.within)) (c.max.result + c.args.span.now.length)
    (ap (λ n. n + c.args.span.now.length) (c.max.ensures ∙ ap (λ n. max n c.args.from) c.next_start.ensures.start))

pub returns-in-None : goal.returns-in-None
returns-in-None g c =
    let s = (g.S.AggStore.stored c.args.store.now) in
    none_ends c.args.span.now.length c.args.span.now.slide s c.args.from c.in-None.ensures.holds (subst (IsAligned s.slices) (sym c.requires.multiple.1) (c.requires.parted.starts (times_of_order s.slices c.in-None.ensures.holds.slices.ordered) c.requires.multiple.0)) c.in-None.ensures.first
