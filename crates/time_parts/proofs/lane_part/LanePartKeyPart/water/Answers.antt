-- The lane tells what the move completes, of which the store holds all tuples.
use Rattle.std.proofs.Common.{◌≡◌, ◌≤◌, ◌+◌, ◌-◌, ◌*◌, ap, sym, take, length, subst, arith, vec_len}
use Rattle.window_laws.specs.Walk.{next_start_of}
use Rattle.agg_store.specs.Stored.{tuples_of}
use Rattle.time_lanes.specs.Spans.{last_end_by}
use Rattle.time_lanes.proofs.Ranges.{fewer_within}
use Rattle.time_lanes.specs.Lane.{Knows, MissesNoSlice, Laned}
use Rattle.time_lanes.specs.Moves.{MayMove}
use Rattle.key_parts.specs.Calls.{window_at, window_kind}
use Rattle.key_parts.specs.Work.{row_work}
use Rattle.time_parts.specs.Places.{stands_at, timed_at}
use Rattle.time_parts.specs.Lanes.{Timed, slices_completed, slices_of_last}
use Rattle.time_parts.proofs.LaneFacts.{completed_of_all, timed_row, timed_slice}
use Rattle.time_parts.proofs.WindowFacts.{apart_above}
use Rattle.time_parts.proofs.lane_part.LanePartKeyPart.water.Goals as goal

pub returns-clause-changes : goal.returns-clause-changes
returns-clause-changes g c = λ m n at.
    let d = c.args.defs.now in
    let s = (g.S.AggStore.stored c.args.store.now) in
    let t = at.stood.timed in
    let w = window_at d c.args.window in
    let gone = take n m.kept in
    let may : MayMove g.M.Partial.of_values w.kind m.water gone s c.args.self.now.lane = record {
      knows = at.stood.knows;
      apart = apart_above d c.args.window m n t at.held.may_leave;
    } in
    completed_of_all m n c.args.old (tuples_of s) at.water_is at.held.tuples w c.args.window c.args.key.now c.args.new c.args.out.now.items c.advance.new.out.items
    (c.advance.ensures.changes w gone m.marks (stands_at d c.args.window t)
    (subst (λ (l : Laned _). MayMove g.M.Partial.of_values w.kind c.args.old gone s l) (sym (ap (λ (p : Timed _). p.lane) c.self.view_is)) (subst (λ k. MayMove g.M.Partial.of_values w.kind k gone s c.args.self.now.lane) at.water_is may)))

pub returns-clause-adds : goal.returns-clause-adds
returns-clause-adds g c = record {
  number = omega (arith, c.advance.ensures.number (window_at c.args.defs.now c.args.window) (stands_at c.args.defs.now c.args.window c.requires.moves.under.key.2.stood.timed));
  capacity = c.advance.ensures.capacity;
}

-- each row takes one step beside the slices that the lane takes up
pub returns-clause-work_ahead : goal.returns-clause-work_ahead
returns-clause-work_ahead g c = λ m n at ahead.
    let d = c.args.defs.now in
    let s = (g.S.AggStore.stored c.args.store.now) in
    let t = at.stood.timed in
    let kind = window_kind d c.args.window in
    let w = window_at d c.args.window in
    let is = stands_at d c.args.window t in
    let lane : c.args.self.now.lane ≡ c.self.inside.lane = sym (ap (λ (p : Timed _). p.lane) c.self.view_is) in
    let knows = subst (λ (l : Laned _). Knows g.M.Partial.of_values kind c.args.old s l) lane (subst (λ k. Knows g.M.Partial.of_values kind k s c.args.self.now.lane) at.water_is at.stood.knows) in
    let cost = c.advance.ensures.cost w is knows (subst (λ (l : Laned _). MissesNoSlice kind c.args.old s l) lane ahead) in
    let credit = ap (λ (l : Laned _). l.credit) lane in
    subst (λ k. c.advance.new.steps + c.advance.new.self.credit ≤ c.args.steps.now + c.args.self.now.lane.credit + (10 * slices_completed d c.args.window s c.args.old c.args.new + k * (vec_len c.advance.new.out - vec_len c.args.out.now)))
    (sym (timed_row kind s.reach (timed_at d c.args.window t))) (omega (arith, cost, credit, c.advance.ensures.number w is))

pub returns-clause-work : goal.returns-clause-work
returns-clause-work g c = λ m n at.
    let d = c.args.defs.now in
    let s = (g.S.AggStore.stored c.args.store.now) in
    let t = at.stood.timed in
    let kind = window_kind d c.args.window in
    let w = window_at d c.args.window in
    let is = stands_at d c.args.window t in
    let lane : c.args.self.now.lane ≡ c.self.inside.lane = sym (ap (λ (p : Timed _). p.lane) c.self.view_is) in
    let cost = c.advance.ensures.cost_touched w is (subst (λ (l : Laned _). Knows g.M.Partial.of_values kind c.args.old s l) lane (subst (λ k. Knows g.M.Partial.of_values kind k s c.args.self.now.lane) at.water_is at.stood.knows)) in
    let credit = ap (λ (l : Laned _). l.credit) lane in
    subst (λ k. c.advance.new.steps + c.advance.new.self.credit ≤ c.args.steps.now + c.args.self.now.lane.credit + (10 * (slices_completed d c.args.window s c.args.old c.args.new + slices_of_last d c.args.window s c.args.old) + k * (vec_len c.advance.new.out - vec_len c.args.out.now)))
    (sym (timed_row kind s.reach (timed_at d c.args.window t))) (omega (arith, cost, credit, c.advance.ensures.number w is))

-- what the lane takes up lies in the store
pub returns-clause-bound : goal.returns-clause-bound
returns-clause-bound g c = λ m n at.
    let d = c.args.defs.now in
    let s = (g.S.AggStore.stored c.args.store.now) in
    let t = at.stood.timed in
    let kind = window_kind d c.args.window in
    let w = window_at d c.args.window in
    let is = stands_at d c.args.window t in
    let lane : c.args.self.now.lane ≡ c.self.inside.lane = sym (ap (λ (p : Timed _). p.lane) c.self.view_is) in
    let cost = c.advance.ensures.work w is (subst (λ (l : Laned _). Knows g.M.Partial.of_values kind c.args.old s l) lane (subst (λ k. Knows g.M.Partial.of_values kind k s c.args.self.now.lane) at.water_is at.stood.knows)) in
    let among = fewer_within (next_start_of kind c.args.old) (last_end_by kind c.args.new) s.slices in
    subst (λ j. c.advance.new.steps ≤ c.args.steps.now + (j * length s.slices + row_work kind s.reach * (vec_len c.advance.new.out - vec_len c.args.out.now)))
    (sym (timed_slice kind (timed_at d c.args.window t)))
    (subst (λ k. c.advance.new.steps ≤ c.args.steps.now + (10 * length s.slices + k * (vec_len c.advance.new.out - vec_len c.args.out.now)))
    (sym (timed_row kind s.reach (timed_at d c.args.window t))) (omega (arith, cost, among, c.advance.ensures.number w is)))
