-- Of each session that ends later no tuple has left.
use Rattle.std.proofs.Common.{◌≡◌, ◌≤◌, ◌-◌, max, arith, rules}
use Rattle.context_windows.specs.Spanned.{FollowsSessions, gap_at}
use Rattle.context_windows.proofs.OfSessions.{follows_left}
use Rattle.context_windows.proofs.session_part.SessionPartKeyPart.drop_settled.Goals as goal

pub returns-clause-stands : goal.returns-clause-stands
returns-clause-stands g c = λ m n time before more after l le.
    let d = c.args.defs.now in
    let is : c.drop_settled.new.self.forgotten ≡ max c.args.self.now.sessions.forgotten (c.args.water - d.lateness) = search rules in
    let late : m.water - d.lateness ≤ c.drop_settled.new.self.forgotten = omega (arith, is, l.water_is) in
    let follows : FollowsSessions (gap_at d c.args.window) m.kept c.drop_settled.new.self = c.drop_settled.ensures.follows (gap_at d c.args.window) m.kept l.stood.follows in
    record {
      session = l.stood.session;
      shown = l.stood.shown;
      follows = follows;
      left = follows_left d c.args.window l.stood.session m more c.drop_settled.new.self l.purge.still_held.may_leave late follows;
      bounded = omega (arith, is, l.water_is, l.stood.bounded);
    }
