-- The partials of the two slices that a mark makes of one.
use Rattle.std.proofs.Common.{◌≡◌, ◌∙◌, ℕ, ℤ, suc, ◌<◌, false, List, [], ◌∷◌, ◌++◌, length, get_or, take, drop, map, ap, sym, subst, append_assoc}
use Rattle.std.specs.Prelude.{nat_le, nat_lt}
use Rattle.std.specs.List.{filter}
use Rattle.std.proofs.lemmas.List.{map-append}
use Rattle.stream_base.specs.declared.kept.Kept.{Kept}
use Rattle.stream_base.specs.Model.Windows.{first_time}
use Rattle.agg_laws.specs.Pairs.{has_key, inserted, replaced}
use Rattle.slice_lists.specs.Runs.{AreInOrder}
use Rattle.slice_lists.specs.Slices.{split_at, values_of}
use Rattle.agg_store.specs.Stored.{partial_of}
use Rattle.slice_store.proofs.PartialFacts.{more_absent, more_there, partial_other}
use Rattle.slice_lists.proofs.MarkFacts.{first_front, in_front}

module _ {M : Type 0} (of_values : List ℤ → M) (runs : List (List Kept)) (at time : ℕ) (l : at < length runs) where
  abbrev front : List Kept
  front = filter (λ (x : Kept). nat_lt x.time time) (get_or runs at [])

  abbrev back : List Kept
  back = filter (λ (x : Kept). nat_le time x.time) (get_or runs at [])

  module _ (o : AreInOrder runs) (n : AreInOrder (split_at at time runs)) (early : first_time (get_or runs at []) < time) (a : M) (a_is : a ≡ of_values (values_of (filter (λ (x : Kept). nat_lt x.time time) (get_or runs at [])))) where
    half_way : replaced (first_time (get_or runs at [])) a (map (partial_of of_values) runs) ≡ map (partial_of of_values) (take at runs ++ front ∷ []) ++ map (partial_of of_values) (drop (suc at) runs)
    half_way =
        partial_other of_values runs at l o front a (first_front time (get_or runs at []) early) a_is
        ∙ ap (map (partial_of of_values)) (sym (append_assoc (take at runs) (front ∷ []) (drop (suc at) runs)))
        ∙ map-append (partial_of of_values) (take at runs ++ front ∷ []) (drop (suc at) runs)

    order_both : AreInOrder ((take at runs ++ front ∷ []) ++ back ∷ drop (suc at) runs)
    order_both = subst AreInOrder (in_front runs at time l) n

    pub split_absent : has_key (first_time (filter (λ (x : Kept). nat_le time x.time) (get_or runs at []))) (replaced (first_time (get_or runs at [])) a (map (partial_of of_values) runs)) ≡ false
    split_absent = ap (has_key (first_time back)) half_way ∙ more_absent of_values (take at runs ++ front ∷ []) (drop (suc at) runs) back order_both

    pub split_there : (b : M) → b ≡ of_values (values_of (filter (λ (x : Kept). nat_le time x.time) (get_or runs at []))) → inserted (first_time (filter (λ (x : Kept). nat_le time x.time) (get_or runs at []))) b (replaced (first_time (get_or runs at [])) a (map (partial_of of_values) runs)) ≡ map (partial_of of_values) (split_at at time runs)
    split_there b b_is =
        ap (inserted (first_time back) b) half_way
        ∙ more_there of_values (take at runs ++ front ∷ []) (drop (suc at) runs) back order_both b b_is
        ∙ ap (map (partial_of of_values)) (sym (in_front runs at time l))
