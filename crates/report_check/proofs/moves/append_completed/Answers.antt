-- What is completed are the changes.
use Rattle.std.proofs.Common.{◌≡◌, ◌∙◌, ◌++◌, ap, rules, subst}
use Rattle.plain_windows.specs.Changing.{all_completions}
use Rattle.report_check.specs.Steps.{IsStep}
use Rattle.report_check.proofs.Following.{changes_by_progress}
use Rattle.report_check.proofs.moves.append_completed.Goals as goal

pub returns : goal.returns
returns g c =
    let items = c.args.out.now.items in
    let key = c.args.key.now in
    let step = subst IsStep c.step.view_is c.step.invariant in
    let kept : c.reserve.new.self.items ≡ items = search rules in
    c.append_completions.ensures.items
    ∙ (λ i. kept i ++ all_completions ((c.step.view_is i).defs).windows key (c.requires.old i) (c.step.view_is i).new)
    ∙ ap (λ cs. items ++ cs) (changes_by_progress c.args.step.now key step c.requires.progress)
