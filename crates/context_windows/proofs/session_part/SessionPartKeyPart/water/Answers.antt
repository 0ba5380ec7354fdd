-- In the sessions that are due the store holds all that was kept.
use Rattle.std.proofs.Common.{◌≤◌, ◌-◌, arith}
use Rattle.key_parts.specs.Calls.{window_at}
use Rattle.context_windows.proofs.Aligning.{due_aligned}
use Rattle.context_windows.proofs.OfSessions.{of_sessions, sessions_held}
use Rattle.context_windows.proofs.Rest.{rest_held}
use Rattle.context_windows.proofs.session_part.SessionPartKeyPart.water.Goals as goal

pub water-requires-clause-aligned : goal.water-requires-clause-aligned
water-requires-clause-aligned g c =
    let d = c.args.defs.now in
    let s = c.requires.moves.under.key in
    due_aligned d.windows (window_at d c.args.window) (s.0).kept (g.S.AggStore.stored c.args.store.now) c.args.self.now.sessions c.args.old c.args.new
    (of_sessions d c.args.window (s.2).stood.session s.0 s.1 (g.S.AggStore.stored c.args.store.now) (rest_held d s.0 s.1 (g.S.AggStore.stored c.args.store.now) (s.2).held)) (s.2).stood.follows

pub returns-clause-changes : goal.returns-clause-changes
returns-clause-changes g c = λ m n s.
    let d = c.args.defs.now in
    let late : m.water - d.lateness ≤ c.args.old = omega (arith, s.water_is) in
    let open_ : c.args.self.now.sessions.forgotten ≤ c.args.old = omega (arith, s.stood.bounded, late) in
    c.water.ensures.changes m s.stood.follows open_ s.water_is
    (sessions_held d c.args.window s.stood.session m n (g.S.AggStore.stored c.args.store.now) (rest_held d m n (g.S.AggStore.stored c.args.store.now) s.held) c.args.old late)
