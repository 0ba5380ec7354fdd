-- The walk begins at the first bound above the watermark, or behind all starts.
use Rattle.std.proofs.Common.{ap, sym, arith}
use Rattle.stream_base.specs.Model.Changes.{Moment}
use Rattle.plain_windows.proofs.Walks.{due_is_left, none_due_is_left}
use Rattle.plain_windows.proofs.walk.due_from.Goals as goal

pub returns-in-Some : goal.returns-in-Some
returns-in-Some c =
    let v = c.args.view.now in
    rw (← ap (λ (m : Moment). m.water) c.view.view_is)
    (due_is_left c.args.window.now.kind v.kept v.marks c.view.inside.water c.in-Some.extent c.vouch.ensures c.vouch-2.ensures (sym c.in-Some.ensures.found))

pub returns-in-None : goal.returns-in-None
returns-in-None c =
    let v = c.args.view.now in
    rw (← ap (λ (m : Moment). m.water) c.view.view_is)
    (none_due_is_left c.args.window.now.kind v.kept v.marks c.view.inside.water 18446744073709551615 c.vouch.ensures c.vouch-2.ensures (omega arith) (sym c.in-None.ensures.found))
