-- One interval more is told.
use Rattle.std.proofs.Common.{◌∙◌, ◌+◌, ◌*◌, ap, arith, length, refl}
use Rattle.stream_base.specs.Model.Windows.{interval}
use Rattle.agg_store.specs.Stored.{tuples_of}
use Rattle.time_lanes.specs.Folds.{slices_under}
use Rattle.time_lanes.specs.Told.{former_at}
use Rattle.time_lanes.proofs.ShareFacts.{one_alone}
use Rattle.time_lanes.proofs.ToldFacts.{at_most_times, former_more, one_more_time}
use Rattle.time_lanes.proofs.late.append_each_former.Goals as goal

pub overflow_add-low : goal.overflow_add-low
overflow_add-low g c =
    omega (arith, c.requires.intervals.early c.loop-k.k c.loop-k-test.true, at_most_times (c.args.complete.first + c.loop-k.k) c.args.span.now.slide c.args.span.now.within.moves)

pub loop-k-preserved : goal.loop-k-preserved
loop-k-preserved g c =
    let slide = c.args.span.now.slide in
    let tuples = tuples_of (g.S.AggStore.stored c.args.store.now) in
    let low = (c.args.complete.first + c.loop-k.k) * slide in
    let h = c.loop-k.invariant in
    record {
      told =
          former_more (former_at c.args.func c.args.span.now.length tuples) c.args.into.now.items c.loop-k.into.items c.push_reserved.new.self.items slide c.args.complete.first c.loop-k.k low c.former.result refl h.told (c.former.ensures c.args.func (interval low (low + c.args.span.now.length) tuples) (c.show.ensures tuples low (low + c.args.span.now.length) c.fold_interval-folded.ensures.value c.fold_interval-folded.ensures.holds.slices.counted)) c.push_reserved.ensures.items;
      number = omega (arith, c.push_reserved.ensures.len, h.number);
      capacity = c.push_reserved.ensures.capacity ∙ h.capacity;
      alone = λ one.
          let own = ap length (one_alone (g.S.AggStore.stored c.args.store.now).slices c.args.complete.first c.args.complete.count c.loop-k.k slide c.args.span.now.length one c.loop-k-test.true) in
          omega (arith, c.fold_interval-folded.ensures.one_each, h.alone one, own, one_more_time (length (slices_under c.args.span.now (g.S.AggStore.stored c.args.store.now).slices c.args.complete)) c.loop-k.k);
      cost = omega (arith, c.fold_interval-folded.ensures.cost, h.cost, one_more_time (64 * ((g.S.AggStore.stored c.args.store.now).reach + 2)) c.loop-k.k);
    }
