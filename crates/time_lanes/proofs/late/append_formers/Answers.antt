-- One group more is told.
use Rattle.std.proofs.Common.{◌∙◌, ◌+◌, ◌*◌, arith, refl}
use Rattle.agg_store.specs.Stored.{tuples_of}
use Rattle.time_lanes.specs.Told.{former_at}
use Rattle.time_lanes.proofs.ShareFacts.{first_group, next_group, one_group}
use Rattle.time_lanes.proofs.ToldFacts.{formers_add, times_add}
use Rattle.time_lanes.proofs.late.append_formers.Goals as goal

pub loop-done-preserved : goal.loop-done-preserved
loop-done-preserved g c =
    let s = g.S.AggStore.stored c.args.store.now in
    let span = c.args.span.now in
    let tuples = tuples_of s in
    let first = c.args.complete.first in
    let done = c.loop-done.done in
    let n = c.min.result in
    let h = c.loop-done.invariant in
    record {
      told = formers_add (former_at c.args.func span.length tuples) c.args.into.now.items c.loop-done.into.items c.append_some_formers.new.into.items span.slide first done n h.told c.append_some_formers.ensures.told;
      number = omega (arith, c.append_some_formers.ensures.adds.number, h.number);
      capacity = c.append_some_formers.ensures.adds.capacity ∙ h.capacity;
      within = omega arith;
      cost = omega (arith, c.append_some_formers.ensures.cost, h.cost, times_add (64 * (s.reach + 2)) done n);
      begun = next_group c.args.complete.count done n c.loop-done-test.true c.min.ensures;
      none = λ z. absurd (omega arith);
      shared = λ some small.
          let z = first_group c.args.complete.count done h.begun c.loop-done-test.true small in
          one_group span s.slices c.args.complete (record { first = first + done; count = n }) done c.args.steps.now c.loop-done.steps c.append_some_formers.new.steps z refl c.min.ensures (h.none z) c.append_some_formers.ensures.shared;
    }
