-- A mark changes no interval; the lane goes on to know the slices before it.
use Rattle.std.proofs.Common.{◌≡◌, ◌∙◌, ◌++◌, ap, sym, subst, append-nil}
use Rattle.time_lanes.specs.Lane.{Knows, MissesNoSlice, Laned}
use Rattle.time_lanes.proofs.StayFacts.{mark_stays}
use Rattle.key_parts.specs.Calls.{window_at, window_kind}
use Rattle.time_parts.specs.Places.{stands_at, timed_at}
use Rattle.time_parts.specs.Lanes.{Timed}
use Rattle.time_parts.proofs.LaneFacts.{mark_changes_nothing}
use Rattle.time_parts.proofs.WindowFacts.{within_at}
use Rattle.time_parts.proofs.lane_part.LanePartKeyPart.mark.Goals as goal

pub returns-clause-stands : goal.returns-clause-stands
returns-clause-stands g c = λ m n before takes.
    let d = c.args.defs.now in
    let t = takes.stood.timed in
    let kind = window_kind d c.args.window in
    let kinds = takes.step.held.may_leave.kinds in
    let same = mark_stays d.windows c.args.window (window_at d c.args.window) before kinds (stands_at d c.args.window t) (timed_at d c.args.window t) takes.step.store takes.step.held.sliced (g.S.AggStore.stored c.args.store.now) c.args.time takes.step.slices in
    record {
      timed = t;
      shown = takes.stood.shown;
      knows = c.touched.ensures.knows kind m.water before (g.S.AggStore.stored c.args.store.now) same (subst (λ (l : Laned _). Knows g.M.Partial.of_values kind m.water before l) (sym (ap (λ (p : Timed _). p.lane) c.self.view_is)) takes.stood.knows);
    }

pub returns-clause-changes : goal.returns-clause-changes
returns-clause-changes g c = λ m n before takes.
    let d = c.args.defs.now in
    let t = takes.stood.timed in
    let may = takes.step.held.may_leave in
    sym (ap (λ q. c.args.out.now.items ++ q) (mark_changes_nothing c.args.window c.args.key.now (window_at d c.args.window) m c.args.time (timed_at d c.args.window t) (within_at d c.args.window t may.kinds) may.kept.in_order) ∙ append-nil c.args.out.now.items)

-- and misses none of them where the mark comes behind what is complete
pub returns-clause-ahead : goal.returns-clause-ahead
returns-clause-ahead g c = λ m n before takes behind ahead.
    let d = c.args.defs.now in
    let t = takes.stood.timed in
    let kind = window_kind d c.args.window in
    let kinds = takes.step.held.may_leave.kinds in
    let same = mark_stays d.windows c.args.window (window_at d c.args.window) before kinds (stands_at d c.args.window t) (timed_at d c.args.window t) takes.step.store takes.step.held.sliced (g.S.AggStore.stored c.args.store.now) c.args.time takes.step.slices in
    let lane : c.args.self.now.lane ≡ c.self.inside.lane = sym (ap (λ (p : Timed _). p.lane) c.self.view_is) in
    c.touched.ensures.knows_all kind c.args.water before (g.S.AggStore.stored c.args.store.now) same behind
    (subst (λ (l : Laned _). Knows g.M.Partial.of_values kind c.args.water before l) lane (subst (λ k. Knows g.M.Partial.of_values kind k before c.args.self.now.lane) takes.water_is takes.stood.knows))
    (subst (λ (l : Laned _). MissesNoSlice kind c.args.water before l) lane ahead)
