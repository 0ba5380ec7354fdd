-- What is appended are the changes from one moment to the other.
use Rattle.std.proofs.Common.{◌≡◌, ◌∙◌, ◌++◌, ap, rules}
use Rattle.stream_base.specs.Model.Changes.{changes_between}
use Rattle.report_check.proofs.Following.{changes_of_moments}
use Rattle.report_check.proofs.moves.append_moved.Goals as goal

pub returns : goal.returns
returns g c =
    let items = c.args.out.now.items in
    let key = c.args.key.now in
    let kept : c.reserve.new.self.items ≡ items = search rules in
    c.append_changes.ensures.items
    ∙ (λ i. kept i ++ changes_between ((c.step.view_is i).defs).windows key c.args.old.now c.args.new.now)
    ∙ ap (λ cs. items ++ cs) (changes_of_moments c.args.step.now key c.args.old.now c.args.new.now c.requires.old c.requires.new)
