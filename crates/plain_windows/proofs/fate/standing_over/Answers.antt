-- What starts there stands over the extent, or nothing does.
use Rattle.std.proofs.Common.{◌∙◌, ap, sym}
use Rattle.stream_base.specs.Model.Changes.{Moment}
use Rattle.stream_base.specs.Model.Windows.{instances_of}
use Rattle.plain_windows.specs.Extents.{instance_in}
use Rattle.plain_windows.proofs.Bounds.{key_lists_run_on}
use Rattle.plain_windows.proofs.Looking.{looked_up_not, looked_up_nothing, looked_up_there}
use Rattle.plain_windows.proofs.fate.standing_over.Goals as goal

pub returns-then-stands_over : goal.returns-then-stands_over
returns-then-stands_over c =
    let v = c.args.view.now in
    record {
      found =
          rw (← ap (λ (m : Moment). m.water) c.view.view_is)
          (looked_up_there (instances_of c.args.window.now.kind v.kept v.marks) c.args.extent.now c.view.inside.water (instance_in v.kept c.in-Some.there) (key_lists_run_on c.args.window.now.kind v.kept v.marks c.vouch.ensures c.vouch-2.ensures) (sym c.in-Some.ensures.found) (sym c.stands_over.ensures ∙ c.if-stands_over.true));
      inside = c.in-Some.ensures.inside;
    }

pub returns-else-stands_over : goal.returns-else-stands_over
returns-else-stands_over c =
    let v = c.args.view.now in
    record {
      found =
          rw (← ap (λ (m : Moment). m.water) c.view.view_is)
          (looked_up_not (instances_of c.args.window.now.kind v.kept v.marks) c.args.extent.now c.view.inside.water (instance_in v.kept c.in-Some.there) (key_lists_run_on c.args.window.now.kind v.kept v.marks c.vouch.ensures c.vouch-2.ensures) (sym c.in-Some.ensures.found) (sym c.stands_over.ensures ∙ c.if-stands_over.false));
      inside = tt;
    }

pub returns-in-None : goal.returns-in-None
returns-in-None c =
    let v = c.args.view.now in
    record {
      found = looked_up_nothing (instances_of c.args.window.now.kind v.kept v.marks) c.args.extent.now v.water (key_lists_run_on c.args.window.now.kind v.kept v.marks c.vouch.ensures c.vouch-2.ensures) (sym c.in-None.ensures.found);
      inside = tt;
    }
