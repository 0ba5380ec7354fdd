-- Up to the end of the first interval nothing is folded yet; the slices before it and those behind it are all.
use Rattle.std.proofs.Common.{◌∙◌, ◌≤◌, ◌+◌, ◌-◌, ◌*◌, arith}
use Rattle.slice_lists.proofs.SliceOrder.{times_of_order}
use Rattle.time_lanes.proofs.Ranges.{number_in_two}
use Rattle.time_lanes.proofs.ShareFacts.{nothing_folded}
use Rattle.time_lanes.proofs.WalkFacts.{times_mono}
use Rattle.time_lanes.proofs.folds.show_together.Goals as goal

pub show_first-requires-clause-head : goal.show_first-requires-clause-head
show_first-requires-clause-head g c =
    let s = g.S.AggStore.stored c.args.store.now in
    let slide = c.args.span.now.slide in
    let first = c.args.complete.first in
    let split = first * slide + c.args.span.now.length in
    let last = c.args.complete.count - 1 in
    record {
      within = omega arith;
      aligned = λ t. c.requires.intervals.parted.ends t first;
      starts = λ k below.
          let m : (first + k) * slide ≤ (first + last) * slide = times_mono (first + k) (first + last) slide (omega arith) in
          omega (arith, m, c.requires.share.close.overlap);
      least = omega arith;
      most = omega arith;
      folded = c.unit-none.ensures ∙ nothing_folded g.met.M.Partial.partial s.slices c.requires.holds.slices split (c.requires.intervals.parted.ends (times_of_order s.slices c.requires.holds.slices.ordered) first);
    }

pub returns-clause-cost : goal.returns-clause-cost
returns-clause-cost g c =
    let s = g.S.AggStore.stored c.args.store.now in
    let slide = c.args.span.now.slide in
    let first = c.args.complete.first in
    let last = first + (c.args.complete.count - 1) in
    let m : first * slide ≤ last * slide = times_mono first last slide (omega arith) in
    omega (arith, c.show_first.ensures.cost, number_in_two (first * slide) (first * slide + c.args.span.now.length) (last * slide + c.args.span.now.length) s.slices (omega arith) (omega (arith, m)) c.requires.holds.slices.ordered)
