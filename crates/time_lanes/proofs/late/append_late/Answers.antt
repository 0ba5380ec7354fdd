-- One group more is told.
use Rattle.std.proofs.Common.{◌∙◌, ◌≡◌, ◌≤◌, ◌+◌, ◌*◌, ◌++◌, ap, arith, refl, subst}
use Rattle.stream_base.specs.declared.limits.TheConstants.{TIME_MAX}
use Rattle.agg_store.specs.Stored.{tuples_of}
use Rattle.time_lanes.specs.Told.{starts_from, told_at, told_late}
use Rattle.time_lanes.proofs.ShareFacts.{first_group, next_group, one_group}
use Rattle.time_lanes.proofs.ToldFacts.{late_add, rest_of, times_add}
use Rattle.time_lanes.proofs.late.append_late.Goals as goal

pub append_some_late-requires-clause-intervals : goal.append_some_late-requires-clause-intervals
append_some_late-requires-clause-intervals g c = record {
  parted = c.requires.intervals.parted;
  early = λ k below.
      let e : c.args.complete.first + (c.loop-done.done + k) ≡ c.args.complete.first + c.loop-done.done + k = omega arith in
      subst (λ n. n * c.args.span.now.slide ≤ TIME_MAX) e (c.requires.intervals.early (c.loop-done.done + k) (omega (arith, c.min.ensures)));
}

pub loop-done-preserved : goal.loop-done-preserved
loop-done-preserved g c =
    let s = g.S.AggStore.stored c.args.store.now in
    let span = c.args.span.now in
    let tuples = tuples_of s in
    let first = c.args.complete.first in
    let done = c.loop-done.done in
    let n = c.min.result in
    let h = c.loop-done.invariant in
    record {
      told = late_add (told_at c.args.owner.window c.args.owner.key.now c.args.owner.func span.length tuples) c.args.out.now.items c.loop-done.out.items c.append_some_late.new.out.items span.slide first done n c.args.formers.now (omega (arith, c.requires.formers, h.within)) h.told (c.append_some_late.ensures.told ∙ ap (λ l. c.loop-done.out.items ++ told_late (told_at c.args.owner.window c.args.owner.key.now c.args.owner.func span.length tuples) (starts_from span.slide (first + done) n) l) (rest_of c.args.formers.now done));
      number = omega (arith, c.append_some_late.ensures.adds.number, h.number);
      capacity = c.append_some_late.ensures.adds.capacity ∙ h.capacity;
      within = omega arith;
      cost = omega (arith, c.append_some_late.ensures.cost, h.cost, times_add (64 * (s.reach + 2)) done n);
      begun = next_group c.args.complete.count done n c.loop-done-test.true c.min.ensures;
      none = λ z. absurd (omega arith);
      shared = λ some small.
          let z = first_group c.args.complete.count done h.begun c.loop-done-test.true small in
          one_group span s.slices c.args.complete (record { first = first + done; count = n }) done c.args.steps.now c.loop-done.steps c.append_some_late.new.steps z refl c.min.ensures (h.none z) c.append_some_late.ensures.shared;
    }
