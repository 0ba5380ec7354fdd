-- The lists stay.
use Rattle.std.proofs.Common.{◌∙◌, ◌++◌, ap, sym, subst}
use Rattle.stream_base.specs.Model.Changes.{moment_of}
use Rattle.report_check.specs.Held.{Held}
use Rattle.report_check.specs.Ledgers.{changes_in, moment_in}
use Rattle.report_check.specs.Steps.{IsStep, Passage}
use Rattle.report_check.proofs.Following.{are_key_lists, followed_by_progress, moment_before, readable_front}
use Rattle.report_check.proofs.key_lists.KeyLists.complete.Goals as goal

pub view-view-requires : goal.view-view-requires
view-view-requires g c =
    let s = c.args.step.now in
    let step = subst IsStep c.step.view_is c.step.invariant in
    are_key_lists s.defs s.sources s.past c.args.self.now (readable_front s.past s.entry step.readable) c.requires.before

pub append_completed-requires-clause-old : goal.append_completed-requires-clause-old
append_completed-requires-clause-old g c =
    let s = c.args.step.now in
    let h = c.args.self.now in
    let step = subst IsStep c.step.view_is c.step.invariant in
    c.view-view.ensures
    ∙ ap (λ (p : Passage). moment_in h p.old) c.step.view_is
    ∙ moment_before s h step c.requires.before
    ∙ ap (λ (l : Held). moment_of s.defs s.sources l.key s.past) (sym c.self.view_is)

pub returns : goal.returns
returns g c =
    followed_by_progress c.args.step.now c.args.self.now c.args.out.now.items c.append_completed.new.out.items c.requires.before c.requires.progress
    (c.in_ok-append_completed.ensures ∙ ap (λ (h : Held). c.args.out.now.items ++ changes_in c.args.step.now h.key) c.self.view_is)
