-- The list that is drawn is that with the tuple.
use Rattle.std.proofs.Common.{◌≡◌, ◌∙◌, ◌+◌, ◌≤◌, List, ap, sym, subst}
use Rattle.stream_base.specs.declared.kept.Kept.{Kept}
use Rattle.stream_base.specs.Laws.{TimesDoNotFall}
use Rattle.stream_base.specs.Model.Journal.{put_in_order}
use Rattle.stream_base.proofs.EventOrder.{times_do_not_fall}
use Rattle.plain_windows.specs.Extents.{AreKeyLists}
use Rattle.plain_keys.specs.States.{IsState, State}
use Rattle.plain_keys.proofs.Keeps.{state_put}
use Rattle.plain_keys.proofs.plain_key.PlainKey.put_late.Goals as goal

pub fill_in-requires-clause-place : goal.fill_in-requires-clause-place
fill_in-requires-clause-place g c = record {
  in_order = subst TimesDoNotFall (sym c.deref.ensures.value) (times_do_not_fall c.self.inside.kept.items c.self.invariant.lists.in_order);
  within = c.requires.next.time;
}

pub new-new-requires : goal.new-new-requires
new-new-requires g c =
    let s = c.self.inside in
    let x = c.args.x in
    let later : s.next ≤ x.position = subst (λ (t : State). t.next ≤ x.position) (sym c.self.view_is) c.requires.next.position in
    let now : IsState (put_in_order s.kept.items x) s.marks.items (x.position + 1) = state_put s.kept.items s.marks.items s.next x.position x.time x.value c.self.invariant later c.requires.next.few c.requires.next.time in
    let filled : c.fill_in.new.drawn.items ≡ put_in_order s.kept.items x = c.fill_in.ensures ∙ ap (λ ks. put_in_order ks x) c.deref.ensures.value in
    let kept : put_in_order s.kept.items x ≡ c.deref-4.result.now = sym (subst (λ (ks : List Kept). c.deref-4.result.now ≡ ks) filled c.deref-4.ensures.value) in
    subst (λ (ks : List Kept). AreKeyLists ks c.deref-5.result.now) kept (subst (AreKeyLists (put_in_order s.kept.items x)) (sym c.deref-5.ensures.value) now.lists)

pub invariant_of-self : goal.invariant_of-self
invariant_of-self g c =
    let s = c.self.inside in
    let x = c.args.x in
    let later : s.next ≤ x.position = subst (λ (t : State). t.next ≤ x.position) (sym c.self.view_is) c.requires.next.position in
    let now : IsState (put_in_order s.kept.items x) s.marks.items (x.position + 1) = state_put s.kept.items s.marks.items s.next x.position x.time x.value c.self.invariant later c.requires.next.few c.requires.next.time in
    let filled : c.fill_in.new.drawn.items ≡ put_in_order s.kept.items x = c.fill_in.ensures ∙ ap (λ ks. put_in_order ks x) c.deref.ensures.value in
    let taken : c.swap.new.x.items ≡ c.fill_in.new.drawn.items = ap (λ v. v.items) c.swap.ensures.x_after in
    let kept : put_in_order s.kept.items x ≡ c.swap.new.x.items = sym (subst (λ (ks : List Kept). c.swap.new.x.items ≡ ks) filled taken) in
    subst (λ (ks : List Kept). IsState ks s.marks.items (x.position + 1)) kept now
