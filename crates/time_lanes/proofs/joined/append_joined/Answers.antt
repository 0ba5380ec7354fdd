-- One interval more is told.
use Rattle.std.proofs.Common.{◌∙◌, ◌+◌, ◌*◌, None, arith, get_or, refl}
use Rattle.time_lanes.proofs.ToldFacts.{at_most_times, late_more}
use Rattle.time_lanes.proofs.joined.append_joined.Goals as goal

pub overflow_add-low : goal.overflow_add-low
overflow_add-low c =
    omega (arith, c.requires.early c.loop-k.k c.loop-k-test.true, at_most_times (c.args.complete.first + c.loop-k.k) c.args.span.now.slide c.args.span.now.within.moves)

pub loop-k-preserved : goal.loop-k-preserved
loop-k-preserved c =
    let slide = c.args.span.now.slide in
    let low = (c.args.complete.first + c.loop-k.k) * slide in
    let h = c.loop-k.invariant in
    let former = get_or c.args.formers.now c.loop-k.k None in
    record {
      told = late_more _ c.args.out.now.items c.loop-k.out.items c.push_reserved.new.self.items slide c.args.complete.first c.loop-k.k low c.args.formers.now former None c.joined.result refl (omega (arith, c.requires.formers, c.loop-k-test.true)) h.told refl c.joined.ensures c.push_reserved.ensures.items;
      number = omega (arith, c.push_reserved.ensures.len, h.number);
      capacity = c.push_reserved.ensures.capacity ∙ h.capacity;
    }
