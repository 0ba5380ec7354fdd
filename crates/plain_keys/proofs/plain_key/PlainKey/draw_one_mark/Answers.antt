-- The marks that are drawn are rising.
use Rattle.std.proofs.Common.{◌≡◌, ◌∙◌, ap, sym, subst}
use Rattle.std.specs.BTreeSet.{insert_key}
use Rattle.std.specs.Ordering.{nat_cmp}
use Rattle.plain_windows.specs.Extents.{AreKeyLists}
use Rattle.plain_keys.proofs.Keeps.{lists_mark}
use Rattle.plain_keys.proofs.plain_key.PlainKey.draw_one_mark.Goals as goal

pub new-new-requires : goal.new-new-requires
new-new-requires c =
    let s = c.self.inside in
    let marks : insert_key nat_cmp s.marks.items c.args.time ≡ c.deref-5.result.now = sym (c.deref-5.ensures.value ∙ c.in_ok-draw_mark.ensures ∙ ap (λ ms. insert_key nat_cmp ms c.args.time) c.deref.ensures.value) in
    subst (AreKeyLists c.deref-4.result.now) marks
    (subst (λ ks. AreKeyLists ks (insert_key nat_cmp s.marks.items c.args.time)) (sym c.deref-4.ensures.value) (lists_mark s.kept.items s.marks.items c.args.time c.self.invariant.lists c.requires.within))
