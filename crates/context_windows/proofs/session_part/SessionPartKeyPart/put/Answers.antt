-- The store holds all of the session that the tuple makes.
use Rattle.std.proofs.Common.{◌≤◌, ◌+◌, ◌-◌, ◌*◌, arith, refl, subst, sym, drop, length, vec_len, zero-le}
use Rattle.std.proofs.Math.Nat.{mul-le-mul_left}
use Rattle.key_parts.specs.Calls.{window_at}
use Rattle.window_spans.specs.Spans.{told_at}
use Rattle.context_windows.specs.Spanned.{FollowsSessions, Remembers, gap_at}
use Rattle.context_windows.proofs.Aligning.{told_aligned}
use Rattle.window_laws.specs.After.{with_tuple}
use Rattle.context_windows.proofs.Following.{no_events}
use Rattle.context_windows.proofs.OfSessions.{of_sessions, session_work, sessions_held, told_once}
use Rattle.context_windows.proofs.Rest.{is_window, left_with, rest_with}
use Rattle.context_windows.proofs.session_part.SessionPartKeyPart.put.Goals as goal

pub put-requires-clause-aligned : goal.put-requires-clause-aligned
put-requires-clause-aligned g c =
    let d = c.args.defs.now in
    let w = window_at d c.args.window in
    let x = c.args.x in
    let t = c.requires.takes in
    let at = (t.4).stood.session in
    let open_ : c.args.self.now.sessions.forgotten ≤ c.args.x.time = omega (arith, (t.4).stood.bounded, (t.4).step.in_time) in
    told_aligned d.windows w (t.0).kept x (g.S.AggStore.stored c.args.store.now) c.args.self.now.sessions c.args.water
    (of_sessions d c.args.window at (with_tuple t.0 x) t.1 (g.S.AggStore.stored c.args.store.now) (rest_with d t.0 t.1 t.2 x t.3 (g.S.AggStore.stored c.args.store.now) w (is_window d c.args.window at.within) (no_events w.kind at.session) (t.4).step))
    (t.4).stood.follows open_

pub returns-clause-stands : goal.returns-clause-stands
returns-clause-stands g c = λ m n before more t.
    let d = c.args.defs.now in
    let w = window_at d c.args.window in
    let at = t.stood.session in
    let x = c.args.x in
    let open_ : c.args.self.now.sessions.forgotten ≤ c.args.x.time = omega (arith, t.stood.bounded, t.step.in_time) in
    record {
      session = t.stood.session;
      shown = t.stood.shown;
      follows = c.put.ensures.follows m.kept x t.stood.follows open_ refl;
      left = subst (λ l. FollowsSessions (gap_at d c.args.window) l c.put.new.self) (left_with d m n before x more (g.S.AggStore.stored c.args.store.now) w (is_window d c.args.window at.within) (no_events w.kind at.session) t.step) (c.put.ensures.follows (drop n m.kept) x t.stood.left open_ refl);
      bounded = subst (λ n. n ≤ m.water - d.lateness) (sym c.put.ensures.takes.forgotten) t.stood.bounded;
    }

pub returns-clause-changes : goal.returns-clause-changes
returns-clause-changes g c = λ m n before more t.
    let d = c.args.defs.now in
    let w = window_at d c.args.window in
    let x = c.args.x in
    let at = t.stood.session in
    let late : m.water - d.lateness ≤ c.args.x.time = omega (arith, t.step.in_time) in
    let open_ : c.args.self.now.sessions.forgotten ≤ c.args.x.time = omega (arith, t.stood.bounded, late) in
    let rest = rest_with d m n before x more (g.S.AggStore.stored c.args.store.now) w (is_window d c.args.window at.within) (no_events w.kind at.session) t.step in
    c.put.ensures.changes m x t.stood.follows open_ refl t.water_is
    (subst (λ water. Remembers w c.args.x.time water m.kept c.args.self.now.sessions) t.water_is t.asked.remembers)
    (sessions_held d c.args.window at (with_tuple m x) n (g.S.AggStore.stored c.args.store.now) rest c.args.x.time late)

pub returns-clause-cost : goal.returns-clause-cost
returns-clause-cost g c =
    let d = c.args.defs.now in
    let gap = gap_at d c.args.window in
    let spans = c.args.self.now.sessions.spans in
    let one = 64 * ((g.S.AggStore.stored c.args.store.now).reach + 2) in
    let told : length (told_at gap c.args.x.time c.args.water spans) ≤ vec_len c.put.new.out - vec_len c.args.out.now = omega (arith, told_once gap c.args.x.time c.args.water spans, c.put.ensures.adds.number) in
    let cost : c.put.new.steps ≤ c.args.steps.now + one * (vec_len c.put.new.out - vec_len c.args.out.now) =
    omega (arith, c.put.ensures.cost, mul-le-mul_left one told) in
    record {
      work = subst (λ k. c.put.new.steps ≤ c.args.steps.now + k * (vec_len c.put.new.out - vec_len c.args.out.now))
          (sym (session_work (window_at d c.args.window).kind (g.S.AggStore.stored c.args.store.now).reach (c.requires.takes.4).stood.session.session)) cost;
      credit = zero-le;
    }
