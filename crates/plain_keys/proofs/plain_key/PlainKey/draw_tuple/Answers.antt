-- The list that is drawn is a key's.
use Rattle.std.proofs.Common.{◌≡◌, ◌∙◌, ◌<◌, ◌≤◌, List, sym, subst}
use Rattle.stream_base.specs.declared.kept.Kept.{Kept}
use Rattle.stream_base.specs.declared.limits.TheConstants.{JOURNAL_MAX, TIME_MAX}
use Rattle.stream_base.specs.Laws.{TimesDoNotFall}
use Rattle.stream_base.specs.Model.Journal.{put_in_order}
use Rattle.stream_base.proofs.EventOrder.{times_do_not_fall}
use Rattle.plain_windows.specs.Extents.{AreKeyLists}
use Rattle.plain_keys.specs.States.{State, stand_in}
use Rattle.plain_keys.proofs.Keeps.{drawn_lists}
use Rattle.plain_keys.proofs.plain_key.PlainKey.draw_tuple.Goals as goal

pub draw_put-requires : goal.draw_put-requires
draw_put-requires c = record {
  in_order = subst TimesDoNotFall (sym c.deref.ensures.value) (times_do_not_fall c.self.inside.kept.items c.self.invariant.lists.in_order);
  within = subst (λ (x : Kept). x.time ≤ TIME_MAX) (sym c.stand_in.ensures) c.requires.entry.within;
}

pub new-new-requires : goal.new-new-requires
new-new-requires c =
    let s = c.self.inside in
    let few : s.next < JOURNAL_MAX = subst (λ (t : State). t.next < JOURNAL_MAX) (sym c.self.view_is) c.requires.few in
    let kept : put_in_order s.kept.items (stand_in c.args.time) ≡ c.deref-4.result.now =
    sym (c.deref-4.ensures.value ∙ c.in_ok-draw_put.ensures ∙ (λ i. put_in_order (c.deref.ensures.value i) (c.stand_in.ensures i))) in
    subst (λ (ks : List Kept). AreKeyLists ks c.deref-5.result.now) kept
    (subst (AreKeyLists (put_in_order s.kept.items (stand_in c.args.time))) (sym c.deref-5.ensures.value) (drawn_lists s.kept.items s.marks.items s.next c.args.time c.self.invariant few c.requires.entry.within))
