-- A tuple more among tuples in order.
use Rattle.std.proofs.Common.{◌≡◌, ◌<◌, ◌≤◌, true, false, List, [], ◌∷◌, sym, subst, arith, inl, inr}
use Rattle.std.specs.Prelude.{◌⊎◌, nat_lt}
use Rattle.std.specs.List.{All}
use Rattle.std.proofs.lemmas.Bool.{ltb-true, ltb-false}
use Rattle.std.proofs.lemmas.List.Elements.{All-cons, All-nil, All-weaker}
use Rattle.stream_base.specs.declared.kept.Kept.{Kept}
use Rattle.stream_base.specs.Laws.{TimesDoNotFall}
use Rattle.stream_base.specs.Model.Journal.{put_in_order}
use Rattle.stream_base.proofs.EventOrder.{All_put}
use Rattle.stream_base.proofs.Filters.{cases_of}
use Rattle.slice_lists.proofs.Order.{nd_cons, nd_head, nd_nil, nd_tail}
use Rattle.slice_lists.proofs.RunFacts.{put_behind, put_first}

-- times don't fall with one tuple more
pub put_times : (kept : List Kept) (x : Kept) → TimesDoNotFall kept → TimesDoNotFall (put_in_order kept x)
put_times [] x h = nd_cons (λ (y : Kept). y.time) x [] (All-nil (λ (y : Kept). x.time ≤ y.time)) (nd_nil (λ (y : Kept). y.time))
put_times (y ∷ ys) x h = by (cases_of (nat_lt x.time y.time)) (put_times ys x (nd_tail (λ (y : Kept). y.time) y ys h))
  where
    above : All (λ (z : Kept). y.time ≤ z.time) ys
    above = nd_head (λ (y : Kept). y.time) y ys h

    by : (nat_lt x.time y.time ≡ true) ⊎ (nat_lt x.time y.time ≡ false) → TimesDoNotFall (put_in_order ys x) → TimesDoNotFall (put_in_order (y ∷ ys) x)
    by (inl e) later =
        let l : x.time < y.time = ltb-true x.time y.time e in
        subst TimesDoNotFall (sym (put_first y ys x e))
        (nd_cons (λ (y : Kept). y.time) x (y ∷ ys) (All-cons (λ (z : Kept). x.time ≤ z.time) y ys (omega arith) (All-weaker (λ (z : Kept). y.time ≤ z.time) (λ z. x.time ≤ z.time) (λ z m. omega arith) ys above)) h)
    by (inr e) later =
        subst TimesDoNotFall (sym (put_behind y ys x e))
        (nd_cons (λ (y : Kept). y.time) y (put_in_order ys x) (All_put (λ (z : Kept). y.time ≤ z.time) ys x above (ltb-false x.time y.time e)) later)
