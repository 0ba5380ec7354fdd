-- A tuple is settled where its session ends by the watermark minus the lateness.
use Rattle.std.proofs.Common.{◌≡◌, ◌-◌, arith, rules, subst, sym}
use Rattle.window_laws.specs.After.{at_water}
use Rattle.window_laws.specs.Settled.{without_first}
use Rattle.window_spans.specs.Ahead.{start_after}
use Rattle.key_parts.specs.Calls.{window_at}
use Rattle.key_parts.specs.Moves.{SettlesUpTo}
use Rattle.context_windows.proofs.SessionSettling.{sessions_settle}
use Rattle.context_windows.proofs.session_part.SessionPartKeyPart.first_unsettled.Goals as goal

pub returns-clause-settles : goal.returns-clause-settles
returns-clause-settles g c = λ m n s w le st.
    let d = c.args.defs.now in
    let is : c.first_open.result ≡ start_after (c.args.water - d.lateness) c.args.self.now.sessions.spans = search rules in
    subst (SettlesUpTo d.lateness (at_water (without_first n m) c.args.water) (window_at d c.args.window)) (sym is)
    (sessions_settle d c.args.window m n c.args.water c.args.self.now.sessions (omega (arith, st.water_is, le)) st.held.may_leave st.lists.1.times st.stood)
