-- One interval more is told.
use Rattle.std.proofs.Common.{◌∙◌, ◌+◌, ◌≤◌, ap, arith, length, max, subst, sym}
use Rattle.agg_store.specs.Stored.{tuples_of}
use Rattle.slice_lists.specs.Runs.{runs_within}
use Rattle.window_laws.specs.Walk.{due_from}
use Rattle.time_lanes.specs.Told.{new_at}
use Rattle.time_lanes.specs.Spans.{last_end}
use Rattle.time_lanes.proofs.WalkFacts.{end_by, held_onward, one_time_more, room_in_part, start_behind, taken_in_part, told_on}
use Rattle.time_lanes.proofs.due.tell_due.Goals as goal

pub tell_one-requires-clause-room : goal.tell_one-requires-clause-room
tell_one-requires-clause-room g c =
    let s = (g.S.AggStore.stored c.args.store.now) in
    let span = c.args.span.now in
    let d = c.in-Some.ensures.some in
    let low = c.in-Some.low in
    let last = end_by span.length span.slide (d.multiple).0 c.args.new span.within.moves (omega (arith, (d.multiple).1, d.ends)) in
    room_in_part span.length span.slide low c.loop-low.start c.loop-low.held.to (last_end span.length span.slide c.args.new) c.loop-low.held.spare s.slices span.within.overlaps d.onward (omega (arith, (d.multiple).1, last)) c.in-Some.ensures.holds.slices.ordered
    (omega (arith, c.loop-low.invariant.room, c.requires.room))

pub loop-low-preserved : goal.loop-low-preserved
loop-low-preserved g c =
    let s = (g.S.AggStore.stored c.args.store.now) in
    let span = c.args.span.now in
    let d = c.in-Some.ensures.some in
    let low = c.in-Some.low in
    let h = c.loop-low.invariant in
    let t = c.tell_one.ensures in
    let o = c.in-Some.ensures.holds.slices.ordered in
    let k = (d.multiple).0 in
    let ends = end_by span.length span.slide k c.args.new span.within.moves (omega (arith, (d.multiple).1, d.ends)) in
    let last = last_end span.length span.slide c.args.new in
    let part =
    subst (λ n. length (runs_within (max low c.loop-low.held.to) (low + span.length) s.slices) + length (runs_within (max (low + span.slide) n) last s.slices) ≤ length (runs_within (max c.loop-low.start c.loop-low.held.to) last s.slices)) (sym t.to)
    (taken_in_part span.length span.slide low c.loop-low.start c.loop-low.held.to last s.slices span.within.overlaps d.onward (omega (arith, (d.multiple).1, ends)) o) in
    let one = ap length d.due in
    record {
      told = λ f le.
          told_on (new_at c.args.owner.window c.args.owner.key.now c.args.owner.func span.length (tuples_of s)) c.loop-low.out.items c.tell_one.new.out.items low (due_from span.length span.slide (tuples_of s) c.loop-low.start c.args.new) (due_from span.length span.slide (tuples_of s) (low + span.slide) c.args.new) (due_from span.length span.slide (tuples_of s) c.args.from c.args.new) c.args.out.now.items (h.told f le) d.due
          (t.told (held_onward g.M.Partial.of_values c.loop-low.start low c.loop-low.held.to s.slices c.loop-low.held.partials o d.onward d.none_between (h.held f)) (omega (arith, h.short le, d.onward)));
      held = λ f. t.held (held_onward g.M.Partial.of_values c.loop-low.start low c.loop-low.held.to s.slices c.loop-low.held.partials o d.onward d.none_between (h.held f));
      short = λ le. omega (arith, h.short le, t.to, d.onward);
      onward = omega (arith, h.onward, d.onward);
      within = omega (arith, (d.multiple).1, start_behind span.length span.slide k c.args.new span.within.moves (omega (arith, (d.multiple).1, d.ends)));
      early = omega (arith, d.ends, span.within.overlaps, c.requires.walk.new);
      multiple = (k + 1, omega (arith, (d.multiple).1, one_time_more k span.slide));
      to = omega (arith, t.to, h.to, (d.multiple).1, ends);
      number = omega (arith, t.adds.number, h.number, one);
      capacity = t.adds.capacity ∙ h.capacity;
      room = omega (arith, part, t.room, h.room);
      cost = omega (arith, part, t.cost, h.cost, one);
    }
