-- A tuple or mark of another key leaves the lists, and a mark of the key goes on by one mark.
use Rattle.std.proofs.Common.{◌≡◌, ◌∙◌, false, true, List, ℕ, ap, sym, subst, rules}
use Rattle.std.specs.Str.{bytes_eq}
use Rattle.std.proofs.lemmas.Slice.Eq.{bytes_eq-Decides}
use Rattle.stream_base.specs.declared.what.What.TheVariants.{Tuple, Mark}
use Rattle.report_check.specs.Held.{Held}
use Rattle.report_check.specs.Ledgers.{StandsBehind}
use Rattle.report_check.specs.Steps.{IsStep}
use Rattle.report_check.proofs.Following.{behind_mark, stays_by_mark, stays_by_tuple}
use Rattle.report_check.proofs.key_lists.KeyLists.follow.Goals as goal

pub returns-else-is_same_key : goal.returns-else-is_same_key
returns-else-is_same_key g c =
    let h = c.args.self.now in
    let s = c.args.step.now in
    let step = subst IsStep c.step.view_is c.step.invariant in
    let is : s.entry.what ≡ Tuple c.in-Tuple.key c.in-Tuple.time c.in-Tuple.value = search rules in
    let other : bytes_eq c.in-Tuple.key h.key ≡ false = ap (λ (l : Held). bytes_eq c.in-Tuple.key l.key) (sym c.self.view_is) ∙ sym c.is_same_key.ensures ∙ c.if-is_same_key.false in
    stays_by_tuple s h c.args.out.now.items c.in-Tuple.key c.in-Tuple.time c.in-Tuple.value step c.requires.before is other

pub returns-else-is_same_key-2 : goal.returns-else-is_same_key-2
returns-else-is_same_key-2 g c =
    let h = c.args.self.now in
    let s = c.args.step.now in
    let step = subst IsStep c.step.view_is c.step.invariant in
    let is : s.entry.what ≡ Mark c.in-Mark.key c.in-Mark.time = search rules in
    let other : bytes_eq c.in-Mark.key h.key ≡ false = ap (λ (l : Held). bytes_eq c.in-Mark.key l.key) (sym c.self-in-Mark.view_is) ∙ sym c.is_same_key-in-Mark.ensures ∙ c.if-is_same_key-2.false in
    stays_by_mark s h c.args.out.now.items c.in-Mark.key c.in-Mark.time step c.requires.before is other

pub move_to-requires-clause-behind : goal.move_to-requires-clause-behind
move_to-requires-clause-behind g c =
    let h = c.args.self.now in
    let s = c.args.step.now in
    let step = subst IsStep c.step.view_is c.step.invariant in
    let is : s.entry.what ≡ Mark c.in-Mark.key c.in-Mark.time = search rules in
    let yes : bytes_eq c.in-Mark.key h.key ≡ true = ap (λ (l : Held). bytes_eq c.in-Mark.key l.key) (sym c.self-in-Mark.view_is) ∙ sym c.is_same_key-in-Mark.ensures ∙ c.if-is_same_key-2.true in
    let same : c.in-Mark.key ≡ h.key = (bytes_eq-Decides c.in-Mark.key h.key).0 yes in
    let says : s.entry.what ≡ Mark h.key c.in-Mark.time = is ∙ ap (λ (k : List ℕ). Mark k c.in-Mark.time) same in
    subst (StandsBehind s) (sym c.in_ok-next-in-Mark.ensures) (behind_mark s h c.in-Mark.time step c.requires.before says)
