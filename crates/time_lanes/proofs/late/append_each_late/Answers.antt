-- One interval more is told.
use Rattle.std.proofs.Common.{◌∙◌, ◌+◌, ◌*◌, None, ap, arith, get_or, length, refl}
use Rattle.agg_store.specs.Stored.{tuples_of}
use Rattle.time_lanes.specs.Folds.{slices_under}
use Rattle.time_lanes.specs.Told.{again_or_new, told_at}
use Rattle.time_lanes.proofs.ShareFacts.{one_alone}
use Rattle.time_lanes.proofs.ToldFacts.{late_more, one_more_time}
use Rattle.time_lanes.proofs.late.append_each_late.Goals as goal

pub loop-k-preserved : goal.loop-k-preserved
loop-k-preserved g c =
    let slide = c.args.span.now.slide in
    let tuples = tuples_of (g.S.AggStore.stored c.args.store.now) in
    let low = (c.args.complete.first + c.loop-k.k) * slide in
    let h = c.loop-k.invariant in
    record {
      told =
          let former = get_or c.args.formers.now c.loop-k.k None in
          late_more (told_at c.args.owner.window c.args.owner.key.now c.args.owner.func c.args.span.now.length tuples) c.args.out.now.items c.loop-k.out.items c.push_reserved.new.self.items slide c.args.complete.first c.loop-k.k low c.args.formers.now former None c.told.result refl (omega (arith, c.requires.formers, c.loop-k-test.true)) h.told refl
          (c.told.ensures ∙ ap (again_or_new former) (c.row-row.ensures tuples (c.show-shown.ensures tuples low (low + c.args.span.now.length) c.fold_interval-folded.ensures.value c.fold_interval-folded.ensures.holds.slices.counted))) c.push_reserved.ensures.items;
      number = omega (arith, c.push_reserved.ensures.len, h.number);
      capacity = c.push_reserved.ensures.capacity ∙ h.capacity;
      alone = λ one.
          let own = ap length (one_alone (g.S.AggStore.stored c.args.store.now).slices c.args.complete.first c.args.complete.count c.loop-k.k slide c.args.span.now.length one c.loop-k-test.true) in
          omega (arith, c.fold_interval-folded.ensures.one_each, h.alone one, own, one_more_time (length (slices_under c.args.span.now (g.S.AggStore.stored c.args.store.now).slices c.args.complete)) c.loop-k.k);
      cost = omega (arith, c.fold_interval-folded.ensures.cost, h.cost, one_more_time (64 * ((g.S.AggStore.stored c.args.store.now).reach + 2)) c.loop-k.k);
    }
