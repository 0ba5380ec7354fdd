-- The partials of the first slices leave.
use Rattle.std.proofs.Common.{◌≡◌, ◌∙◌, ℕ, ℤ, suc, ◌+◌, ◌*◌, ◌<◌, ◌≤◌, List, [], ◌∷◌, length, get_or, drop, map, ap, subst, arith, drop-cons}
use Rattle.std.proofs.lemmas.List.Elements.{All-nil, All-weaker}
use Rattle.stream_base.specs.declared.kept.Kept.{Kept}
use Rattle.stream_base.specs.Model.Windows.{first_time, last_time}
use Rattle.agg_laws.specs.Pairs.{without}
use Rattle.agg_laws.proofs.RisingPairs.{without-middle}
use Rattle.slice_lists.specs.Runs.{AreInOrder}
use Rattle.slice_lists.specs.Slices.{values_of}
use Rattle.agg_store.specs.Stored.{partial_of}
use Rattle.slice_store.proofs.PartialFacts.{firsts_above}
use Rattle.slice_lists.proofs.SliceOrder.{first_below_last}
use Rattle.slice_lists.proofs.LeaveFacts.{order_from}

pub first_leaves : {M : Type 0} (of_values : List ℤ → M) (runs : List (List Kept)) (at : ℕ) → at < length runs → AreInOrder runs → without (first_time (get_or runs at [])) (map (partial_of of_values) (drop at runs)) ≡ map (partial_of of_values) (drop (at + 1) runs)
first_leaves of_values runs at l o =
    let p = get_or runs at [] in
    let a : AreInOrder (p ∷ drop (suc at) runs) = subst AreInOrder (drop-cons runs at [] l) (order_from runs at o) in
    let f : first_time p ≤ last_time p = first_below_last p a.0 in
    ap (λ rs. without (first_time p) (map (partial_of of_values) rs)) (drop-cons runs at [] l)
    ∙ without-middle (first_time p) [] (map (partial_of of_values) (drop (suc at) runs)) (All-nil (λ q. q.0 < first_time p)) (All-weaker (λ q. last_time p < q.0) (λ q. first_time p < q.0) (λ q m. omega arith) (map (partial_of of_values) (drop (suc at) runs)) (firsts_above of_values p (drop (suc at) runs) a.1 a.2)) (of_values (values_of p))
    ∙ ap (λ n. map (partial_of of_values) (drop n runs)) (let e : suc at ≡ at + 1 = omega arith in e)

-- one bound more
pub one_more : (start before now reach own at : ℕ) → before ≤ start + 64 * (reach + 2) * at → own ≤ reach → now ≤ before + 64 * (own + 2) → now ≤ start + 64 * (reach + 2) * (at + 1)
one_more start before now reach own at h r s = omega arith
