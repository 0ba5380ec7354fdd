-- Of each interval that ends later no tuple has left.
use Rattle.std.proofs.Common.{◌≡◌, ◌≤◌, ◌-◌, max, arith, rules}
use Rattle.context_windows.specs.Marked.{FollowsMarks}
use Rattle.context_windows.proofs.OfMarks.{follows_left}
use Rattle.context_windows.proofs.mark_part.MarkPartKeyPart.drop_settled.Goals as goal

pub returns-clause-stands : goal.returns-clause-stands
returns-clause-stands g c = λ m n time before more after l le.
    let d = c.args.defs.now in
    let is : c.drop_settled.new.self.forgotten ≡ max c.args.self.now.windows.forgotten (c.args.water - d.lateness) = search rules in
    let late : m.water - d.lateness ≤ c.drop_settled.new.self.forgotten = omega (arith, is, l.water_is) in
    let follows : FollowsMarks m.marks m.kept c.drop_settled.new.self = c.drop_settled.ensures.follows m.marks m.kept l.stood.follows in
    record {
      marks = l.stood.marks;
      shown = l.stood.shown;
      follows = follows;
      left = follows_left d c.args.window l.stood.marks m more c.drop_settled.new.self l.purge.still_held.may_leave late follows;
      bounded = omega (arith, is, l.water_is, l.stood.bounded);
    }
