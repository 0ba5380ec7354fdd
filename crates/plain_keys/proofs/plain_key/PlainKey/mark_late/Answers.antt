-- The marks that are drawn are those with one more.
use Rattle.std.proofs.Common.{◌≡◌, ◌∙◌, List, ℕ, ap, sym, subst}
use Rattle.std.specs.BTreeSet.{insert_key}
use Rattle.std.specs.Ordering.{nat_cmp}
use Rattle.stream_base.specs.declared.kept.Kept.{Kept}
use Rattle.plain_windows.specs.Extents.{AreKeyLists}
use Rattle.plain_keys.specs.States.{IsState, State}
use Rattle.plain_keys.proofs.Keeps.{lists_mark, state_mark}
use Rattle.plain_keys.proofs.plain_key.PlainKey.mark_late.Goals as goal

pub new-new-requires : goal.new-new-requires
new-new-requires g c =
    let s = c.self.inside in
    let drawn : s.next_marks.items ≡ insert_key nat_cmp s.marks.items c.args.time = subst (λ (t : State). t.next_marks ≡ insert_key nat_cmp t.marks c.args.time) (sym c.self.view_is) c.requires.drawn in
    let marks : insert_key nat_cmp s.marks.items c.args.time ≡ c.deref-4.result.now = sym (c.deref-4.ensures.value ∙ drawn) in
    let kept : s.kept.items ≡ c.deref-3.result.now = sym c.deref-3.ensures.value in
    subst (λ (ks : List Kept). AreKeyLists ks c.deref-4.result.now) kept
    (subst (λ (ms : List ℕ). AreKeyLists s.kept.items ms) marks (lists_mark s.kept.items s.marks.items c.args.time c.self.invariant.lists c.requires.mark.within))

pub invariant_of-self : goal.invariant_of-self
invariant_of-self g c =
    let s = c.self.inside in
    let drawn : s.next_marks.items ≡ insert_key nat_cmp s.marks.items c.args.time = subst (λ (t : State). t.next_marks ≡ insert_key nat_cmp t.marks c.args.time) (sym c.self.view_is) c.requires.drawn in
    let marks : insert_key nat_cmp s.marks.items c.args.time ≡ c.swap.new.x.items = sym (ap (λ v. v.items) c.swap.ensures.x_after ∙ drawn) in
    subst (λ (ms : List ℕ). IsState s.kept.items ms s.next) marks (state_mark s.kept.items s.marks.items s.next c.args.time c.self.invariant c.requires.mark.within)
