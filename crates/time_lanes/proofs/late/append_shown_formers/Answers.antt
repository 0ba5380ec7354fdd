-- One interval more is told.
use Rattle.std.proofs.Common.{◌∙◌, ◌+◌, ◌*◌, arith, refl}
use Rattle.stream_base.specs.Model.Windows.{interval}
use Rattle.agg_store.specs.Stored.{tuples_of}
use Rattle.time_lanes.specs.Told.{former_at}
use Rattle.time_lanes.proofs.ToldFacts.{former_more}
use Rattle.time_lanes.proofs.late.append_shown_formers.Goals as goal

pub loop-k-preserved : goal.loop-k-preserved
loop-k-preserved g c =
    let slide = c.args.span.now.slide in
    let tuples = tuples_of (g.S.AggStore.stored c.args.store.now) in
    let low = (c.args.complete.first + c.loop-k.k) * slide in
    let value = c.show_together.ensures.shown c.loop-k.k c.loop-k-test.true in
    let h = c.loop-k.invariant in
    record {
      told =
          former_more (former_at c.args.func c.args.span.now.length tuples) c.args.into.now.items c.loop-k.into.items c.push_reserved.new.self.items slide c.args.complete.first c.loop-k.k low c.former.result refl h.told (c.former.ensures c.args.func (interval low (low + c.args.span.now.length) tuples) (value _)) c.push_reserved.ensures.items;
      number = omega (arith, c.push_reserved.ensures.len, h.number);
      capacity = c.push_reserved.ensures.capacity ∙ h.capacity;
    }
