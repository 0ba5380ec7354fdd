-- The tuple is the next of the key.
use Rattle.std.proofs.Common.{◌≡◌, ◌∙◌, ◌<◌, ℕ, ℤ, ap, length, sym, subst, to_z, of_z, w64}
use Rattle.std.proofs.lemmas.Int.{to_z-of_z}
use Rattle.stream_base.specs.declared.kept.Kept.{Kept}
use Rattle.report_check.specs.Steps.{IsStep, Passage}
use Rattle.report_check.specs.Ledgers.{StandsBehind, held_with_tuple}
use Rattle.report_check.proofs.Following.{behind_tuple, followed_ahead}
use Rattle.report_check.proofs.key_lists.KeyLists.put.Goals as goal

abbrev at : ℕ → ℕ → ℤ → Kept
at position time value = record { position = position; time = time; value = value }

pub move_to-requires-clause-behind : goal.move_to-requires-clause-behind
move_to-requires-clause-behind g c =
    let s = c.args.step.now in
    let step = subst IsStep c.step.view_is c.step.invariant in
    let x : c.kept_at-x.result ≡ at (length s.past) c.args.time c.args.value = c.kept_at-x.ensures ∙ ap (λ (p : Passage). at (length p.past) c.args.time (to_z w64 (of_z w64 c.args.value))) c.step.view_is ∙ ap (at (length s.past) c.args.time) (to_z-of_z w64 c.args.value c.ranges.value) in
    subst (StandsBehind s) (sym (c.in_ok-next.ensures ∙ ap (held_with_tuple c.args.self.now) x)) (behind_tuple s c.args.self.now c.args.time c.args.value step c.requires.before c.requires.says)

pub returns-then-water-time : goal.returns-then-water-time
returns-then-water-time g c =
    let s = c.args.step.now in
    let step = subst IsStep c.step.view_is c.step.invariant in
    let x : c.kept_at-x.result ≡ at (length s.past) c.args.time c.args.value = c.kept_at-x.ensures ∙ ap (λ (p : Passage). at (length p.past) c.args.time (to_z w64 (of_z w64 c.args.value))) c.step.view_is ∙ ap (at (length s.past) c.args.time) (to_z-of_z w64 c.args.value c.ranges.value) in
    followed_ahead s c.args.self.now c.in_ok-next.next c.args.out.now.items c.args.time c.args.value step c.requires.before c.requires.says (subst (λ (p : Passage). p.old < c.args.time) c.step.view_is c.if-water-time.true) (c.in_ok-next.ensures ∙ ap (held_with_tuple c.args.self.now) x)
