-- Slices part at the sessions of all that was kept, and in those that are asked the store holds all.
use Rattle.std.proofs.Common.{◌≤◌, ◌-◌, arith, subst, sym}
use Rattle.key_parts.specs.Calls.{window_at}
use Rattle.context_windows.specs.Spanned.{HasAsked, Remembers, gap_at}
use Rattle.context_windows.proofs.Aligning.{asked_aligned}
use Rattle.context_windows.proofs.OfSessions.{of_sessions, sessions_held}
use Rattle.context_windows.proofs.Rest.{rest_held}
use Rattle.context_windows.proofs.session_part.SessionPartKeyPart.before.Goals as goal

pub before-requires-clause-aligned : goal.before-requires-clause-aligned
before-requires-clause-aligned g c =
    let d = c.args.defs.now in
    let s = c.requires.stands.key in
    asked_aligned d.windows (window_at d c.args.window) (s.0).kept (g.S.AggStore.stored c.args.store.now) c.args.self.now.sessions c.args.time c.args.water
    (of_sessions d c.args.window (s.2).stood.session s.0 s.1 (g.S.AggStore.stored c.args.store.now) (rest_held d s.0 s.1 (g.S.AggStore.stored c.args.store.now) (s.2).held)) (s.2).stood.follows

pub returns-clause-asked : goal.returns-clause-asked
returns-clause-asked g c = λ m n s.
    let d = c.args.defs.now in
    let late : m.water - d.lateness ≤ c.args.time = omega (arith, s.water_is, c.requires.accepted.accepted) in
    let open_ : c.args.self.now.sessions.forgotten ≤ c.args.time = omega (arith, s.stood.bounded, late) in
    let held = sessions_held d c.args.window s.stood.session m n (g.S.AggStore.stored c.args.store.now) (rest_held d m n (g.S.AggStore.stored c.args.store.now) s.held) c.args.time late in
    record {
      asked = subst (λ w. HasAsked (gap_at d c.args.window) c.args.time w c.before-2.new.self) (sym s.water_is) c.before-2.ensures.asked;
      remembers = subst (λ w. Remembers (window_at d c.args.window) c.args.time w m.kept c.before-2.new.self) (sym s.water_is) (c.before-2.ensures.remembers m.kept s.stood.follows open_ held);
    }
