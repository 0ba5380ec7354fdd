-- The first bound above the watermark is the least of them.
use Rattle.std.proofs.Common.{◌∙◌, ap, sym}
use Rattle.stream_base.specs.Model.Changes.{Moment}
use Rattle.stream_base.specs.Model.Windows.{instances_of}
use Rattle.plain_windows.proofs.Ahead.{first_bound_ahead, no_bound_ahead}
use Rattle.plain_windows.proofs.Bounds.{key_lists_run_on}
use Rattle.plain_windows.proofs.completions.next_of_window.Goals as goal

pub returns-in-Some : goal.returns-in-Some
returns-in-Some c =
    let v = c.args.view.now in
    rw (← ap (λ (m : Moment). m.water) c.view.view_is)
    (c.least_of.ensures
    ∙ sym (first_bound_ahead (instances_of c.args.window.now.kind v.kept v.marks) c.view.inside.water c.args.least c.in-Some.bound (key_lists_run_on c.args.window.now.kind v.kept v.marks c.vouch.ensures c.vouch-2.ensures) c.in-Some.ensures))

pub returns-in-None : goal.returns-in-None
returns-in-None c =
    let v = c.args.view.now in
    rw (← ap (λ (m : Moment). m.water) c.view.view_is)
    (sym (no_bound_ahead (instances_of c.args.window.now.kind v.kept v.marks) c.view.inside.water c.args.least c.in-None.ensures))
