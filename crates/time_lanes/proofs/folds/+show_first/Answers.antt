-- What each has before the end of the first interval is joined to the part in front of it, and then to what is behind that end.
use Rattle.std.proofs.Common.{rules, ◌≡◌, ◌∙◌, ◌≤◌, ◌<◌, ◌+◌, ◌-◌, ◌*◌, ap, arith, length}
use Rattle.slice_lists.proofs.SliceOrder.{times_of_order}
use Rattle.slice_lists.specs.Runs.{runs_within}
use Rattle.stream_base.specs.Model.Changes.{former_of}
use Rattle.stream_base.specs.Model.Windows.{interval}
use Rattle.agg_store.specs.Stored.{tuples_of}
use Rattle.time_lanes.specs.Folds.{IsHead, fold_between}
use Rattle.time_lanes.proofs.Ranges.{number_in_two}
use Rattle.time_lanes.proofs.ShareFacts.{folds_joined, goes_on_from, nothing_folded, one_behind}
use Rattle.time_lanes.proofs.ToldFacts.{at_most_times}
use Rattle.time_lanes.proofs.WalkFacts.{times_mono}
use Rattle.time_lanes.proofs.folds.+show_first.Goals as goal

pub returns-then-count-eq0-clause-tail : goal.returns-then-count-eq0-clause-tail
returns-then-count-eq0-clause-tail g t c =
    let s = g.S.AggStore.stored c.args.store.now in
    let slide = c.args.span.now.slide in
    let len = c.args.span.now.length in
    let first = c.args.complete.first in
    let split = first * slide + len in
    let none : first ≡ first + (c.args.count - 1) = omega (arith, c.if-count-eq0.true) in
    c.unit.ensures
    ∙ nothing_folded g.met.M.Partial.partial s.slices c.requires.holds.slices split (c.requires.intervals.parted.ends (times_of_order s.slices c.requires.holds.slices.ordered) first)
    ∙ ap (λ n. fold_between g.M.Partial.of_values s split (n * slide + len)) none

pub overflow_add-start : goal.overflow_add-start
overflow_add-start g t c =
    let below : c.args.count - 1 < c.args.complete.count = omega (arith, c.requires.head.within, c.if-count-eq0.false) in
    omega (arith, c.requires.intervals.early (c.args.count - 1) below, at_most_times (c.args.complete.first + (c.args.count - 1)) c.args.span.now.slide c.args.span.now.within.moves)

pub show_first-tail-requires : goal.show_first-tail-requires
show_first-tail-requires g t c κs within =
    let s = g.S.AggStore.stored c.args.store.now in
    let slide = c.args.span.now.slide in
    let first = c.args.complete.first in
    let split = first * slide + c.args.span.now.length in
    let h = c.requires.head in
    let at = c.args.count - 1 in
    let start = (first + at) * slide in
    let times = times_of_order s.slices c.requires.holds.slices.ordered in
    let below : start ≤ c.args.low = h.starts at (omega (arith, c.if-count-eq0.false)) in
    let head : c.combine-head.result ≡ fold_between g.M.Partial.of_values s start split = c.combine-head.ensures.value ∙ (λ i. g.M.Monoid.op (c.fold.ensures.value i) (h.folded i)) ∙ folds_joined g.met.M.Partial.partial s.slices c.requires.holds.slices start c.args.low split below h.most (c.requires.intervals.parted.starts times (first + at)) (h.aligned times) (c.requires.intervals.parted.ends times first) in
    let is : IsHead g.M.Partial.of_values c.args.span.now s c.args.complete at start c.combine-head.result = record {
      within = omega (arith, h.within);
      aligned = λ t. c.requires.intervals.parted.starts t (first + at);
      starts = λ k l. times_mono (first + k) (first + at) slide (omega arith);
      least = times_mono first (first + at) slide (omega arith);
      most = omega (arith, below, h.most);
      folded = head;
    } in
    search rules

pub returns-clause-tail : goal.returns-clause-tail
returns-clause-tail g t c =
    let s = g.S.AggStore.stored c.args.store.now in
    let slide = c.args.span.now.slide in
    let len = c.args.span.now.length in
    let first = c.args.complete.first in
    let split = first * slide + len in
    let at = c.args.count - 1 in
    let end = (first + at) * slide + len in
    let before = (first + (at - 1)) * slide + len in
    let times = times_of_order s.slices c.requires.holds.slices.ordered in
    let parted = c.requires.intervals.parted in
    let high : c.max-high.result ≡ before = c.max-high.ensures ∙ goes_on_from first at slide len c.args.span.now.within.overlaps in
    let onward : first * slide ≤ (first + (at - 1)) * slide = times_mono first (first + (at - 1)) slide (omega arith) in
    let more : (first + (at - 1)) * slide ≤ (first + at) * slide = times_mono (first + (at - 1)) (first + at) slide (omega arith) in
    c.combine-tail.ensures.value
    ∙ (λ i. g.M.Monoid.op (c.show_first-tail.ensures.tail i) ((c.fold-2.ensures.value ∙ ap (λ n. fold_between g.M.Partial.of_values s n end) high) i))
    ∙ folds_joined g.met.M.Partial.partial s.slices c.requires.holds.slices split before end (omega (arith, onward)) (omega (arith, more)) (parted.ends times first) (parted.ends times (first + (at - 1))) (parted.ends times (first + at))

pub returns-clause-shown : goal.returns-clause-shown
returns-clause-shown g t c = λ k l d.
    let s = g.S.AggStore.stored c.args.store.now in
    let slide = c.args.span.now.slide in
    let len = c.args.span.now.length in
    let first = c.args.complete.first in
    let split = first * slide + len in
    let h = c.requires.head in
    let at = c.args.count - 1 in
    let start = (first + at) * slide in
    let end = start + len in
    let before = (first + (at - 1)) * slide + len in
    let times = times_of_order s.slices c.requires.holds.slices.ordered in
    let parted = c.requires.intervals.parted in
    let below : start ≤ c.args.low = h.starts at (omega (arith, c.if-count-eq0.false)) in
    let head : c.combine-head.result ≡ fold_between g.M.Partial.of_values s start split = c.combine-head.ensures.value ∙ (λ i. g.M.Monoid.op (c.fold.ensures.value i) (h.folded i)) ∙ folds_joined g.met.M.Partial.partial s.slices c.requires.holds.slices start c.args.low split below h.most (parted.starts times (first + at)) (h.aligned times) (parted.ends times first) in
    let high : c.max-high.result ≡ before = c.max-high.ensures ∙ goes_on_from first at slide len c.args.span.now.within.overlaps in
    let onward : first * slide ≤ (first + (at - 1)) * slide = times_mono first (first + (at - 1)) slide (omega arith) in
    let more : (first + (at - 1)) * slide ≤ start = times_mono (first + (at - 1)) (first + at) slide (omega arith) in
    let from_first : first * slide ≤ start = times_mono first (first + at) slide (omega arith) in
    let tail : c.combine-tail.result ≡ fold_between g.M.Partial.of_values s split end =
    c.combine-tail.ensures.value
    ∙ (λ i. g.M.Monoid.op (c.show_first-tail.ensures.tail i) ((c.fold-2.ensures.value ∙ ap (λ n. fold_between g.M.Partial.of_values s n end) high) i))
    ∙ folds_joined g.met.M.Partial.partial s.slices c.requires.holds.slices split before end (omega (arith, onward)) (omega (arith, more)) (parted.ends times first) (parted.ends times (first + (at - 1))) (parted.ends times (first + at)) in
    let whole : c.combine.result ≡ fold_between g.M.Partial.of_values s start end = c.combine.ensures.value ∙ (λ i. g.M.Monoid.op (head i) (tail i)) ∙ folds_joined g.met.M.Partial.partial s.slices c.requires.holds.slices start split end (omega (arith, below, h.most)) (omega (arith, from_first)) (parted.starts times (first + at)) (parted.ends times first) (parted.ends times (first + at)) in
    one_behind c.show_first-tail.new.shown at c.show.result (λ k. former_of c.args.func (interval ((first + k) * slide) ((first + k) * slide + len) (tuples_of s))) (omega (arith, c.requires.places, c.if-count-eq0.false)) (c.show.ensures (tuples_of s) start end whole c.requires.holds.slices.counted) c.show_first-tail.ensures.shown k (omega arith) d

pub returns-clause-cost : goal.returns-clause-cost
returns-clause-cost g t c =
    let s = g.S.AggStore.stored c.args.store.now in
    let slide = c.args.span.now.slide in
    let len = c.args.span.now.length in
    let first = c.args.complete.first in
    let split = first * slide + len in
    let h = c.requires.head in
    let at = c.args.count - 1 in
    let start = (first + at) * slide in
    let end = start + len in
    let before = (first + (at - 1)) * slide + len in
    let below : start ≤ c.args.low = h.starts at (omega (arith, c.if-count-eq0.false)) in
    let high : c.max-high.result ≡ before = c.max-high.ensures ∙ goes_on_from first at slide len c.args.span.now.within.overlaps in
    let onward : first * slide ≤ (first + (at - 1)) * slide = times_mono first (first + (at - 1)) slide (omega arith) in
    let more : (first + (at - 1)) * slide ≤ start = times_mono (first + (at - 1)) (first + at) slide (omega arith) in
    let from_first : first * slide ≤ start = times_mono first (first + at) slide (omega arith) in
    let o = c.requires.holds.slices.ordered in
    omega (arith, c.if-count-eq0.false, c.fold.ensures.one_each, c.combine-head.ensures.counted, c.show_first-tail.ensures.cost, c.fold-2.ensures.one_each, ap (λ n. length (runs_within n end s.slices)) high, c.combine-tail.ensures.counted, c.combine.ensures.counted, number_in_two (first * slide) start c.args.low s.slices from_first below o, number_in_two split before end s.slices (omega (arith, onward)) (omega (arith, more)) o)
