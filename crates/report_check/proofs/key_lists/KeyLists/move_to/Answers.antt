-- The lists before the step and behind it are those of a key.
use Rattle.std.proofs.Common.{◌∙◌, ap, sym, subst}
use Rattle.stream_base.specs.Model.Changes.{moment_of}
use Rattle.report_check.specs.Held.{Held}
use Rattle.report_check.specs.Ledgers.{moment_in}
use Rattle.report_check.specs.Steps.{IsStep, Passage, behind}
use Rattle.report_check.proofs.Following.{are_key_lists, moment_before, moment_behind, readable_front}
use Rattle.report_check.proofs.key_lists.KeyLists.move_to.Goals as goal

pub view-old-requires : goal.view-old-requires
view-old-requires g c =
    let s = c.args.step.now in
    let step = subst IsStep c.step.view_is c.step.invariant in
    are_key_lists s.defs s.sources s.past c.args.self.now (readable_front s.past s.entry step.readable) c.requires.before

pub view-new-requires : goal.view-new-requires
view-new-requires g c =
    let s = c.args.step.now in
    let step = subst IsStep c.step.view_is c.step.invariant in
    are_key_lists s.defs s.sources (behind s) c.args.next step.readable c.requires.behind

pub append_moved-requires-clause-old : goal.append_moved-requires-clause-old
append_moved-requires-clause-old g c =
    let s = c.args.step.now in
    let h = c.args.self.now in
    let step = subst IsStep c.step.view_is c.step.invariant in
    c.view-old.ensures
    ∙ ap (λ (p : Passage). moment_in h p.old) c.step.view_is
    ∙ moment_before s h step c.requires.before
    ∙ ap (λ (l : Held). moment_of s.defs s.sources l.key s.past) (sym c.self.view_is)

pub append_moved-requires-clause-new : goal.append_moved-requires-clause-new
append_moved-requires-clause-new g c =
    let s = c.args.step.now in
    let h = c.args.self.now in
    let step = subst IsStep c.step.view_is c.step.invariant in
    c.view-new.ensures
    ∙ ap (λ (p : Passage). moment_in c.args.next p.new) c.step.view_is
    ∙ moment_behind s c.args.next step c.requires.behind
    ∙ ap (λ key. moment_of s.defs s.sources key (behind s)) c.requires.key
    ∙ ap (λ (l : Held). moment_of s.defs s.sources l.key (behind s)) (sym c.self.view_is)
