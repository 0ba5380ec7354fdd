-- The first that starts there is the first that is left where it is complete; else none is left.
use Rattle.std.proofs.Common.{sym}
use Rattle.plain_windows.proofs.Walks.{first_is_left, late_is_left, none_is_left}
use Rattle.plain_windows.proofs.walk.first_left.Goals as goal

pub returns-then-extent-water : goal.returns-then-extent-water
returns-then-extent-water c =
    first_is_left c.args.window.now.kind c.args.view.now.kept c.args.view.now.marks c.args.from c.args.water c.in-Some.extent c.vouch.ensures c.vouch-2.ensures (sym c.in-Some.ensures.found) c.in-Some.ensures.inside c.if-extent-water.true

pub returns-else-extent-water : goal.returns-else-extent-water
returns-else-extent-water c =
    late_is_left c.args.window.now.kind c.args.view.now.kept c.args.view.now.marks c.args.from c.args.water c.in-Some.extent c.vouch.ensures c.vouch-2.ensures (sym c.in-Some.ensures.found) c.if-extent-water.false

pub returns-in-None : goal.returns-in-None
returns-in-None c = none_is_left c.args.window.now.kind c.args.view.now.kept c.args.view.now.marks c.args.from c.args.water (sym c.in-None.ensures.found)
