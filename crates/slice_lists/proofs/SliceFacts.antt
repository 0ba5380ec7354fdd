-- One slice among others, and the slices that a tuple enters.
use Rattle.std.proofs.Common.{◌≡◌, ◌∙◌, ℕ, suc, ◌+◌, ◌-◌, ◌<◌, ◌≤◌, List, [], ◌∷◌, ◌++◌, length, get_or, take, drop, ap, sym, refl, subst, arith, drop-cons}
use Rattle.std.specs.Prelude.{FitsSigned}
use Rattle.std.specs.Int.{w64}
use Rattle.std.specs.List.{All}
use Rattle.std.proofs.lemmas.Bool.{lt-ltb, le-ltb}
use Rattle.std.proofs.lemmas.List.{get_or_default, append-nil, length-take}
use Rattle.std.proofs.lemmas.List.Elements.{All-head, All-tail}
use Rattle.std.proofs.Math.Seq.{get_or-append_seam}
use Rattle.stream_base.specs.declared.kept.Kept.{Kept}
use Rattle.stream_base.specs.declared.limits.TheConstants.{TIME_MAX}
use Rattle.stream_base.specs.Model.Journal.{put_in_order}
use Rattle.stream_base.specs.Model.Windows.{first_time, last_time}
use Rattle.slice_lists.specs.Runs.{AreInOrder, IsRun}
use Rattle.slice_lists.proofs.Order.{All-map_of, All-split}
use Rattle.slice_lists.proofs.RunFacts.{put_behind, put_first}
use Rattle.slice_lists.specs.Slices.{AreSlices, entered_at, joined, slices_between, values_of}
use Rattle.slice_lists.proofs.SliceOrder.{IsNear, first_below_last, part_at, put_far, run_below_last}
use Rattle.slice_lists.proofs.SliceEdits.{put_length}
use Rattle.slice_lists.proofs.SliceParts.{in_parts, joined_parts}

pub values_at : (runs : List (List Kept)) (at : ℕ) → at < length runs → AreSlices runs → All (FitsSigned w64) (values_of (get_or runs at []))
values_at runs at l h =
    let whole : All (λ (x : Kept). FitsSigned w64 x.value) (joined (take at runs) ++ (get_or runs at [] ++ joined (drop (suc at) runs))) = subst (All (λ (x : Kept). FitsSigned w64 x.value)) (joined_parts runs at l) h.values in
    let behind : All (λ (x : Kept). FitsSigned w64 x.value) (get_or runs at [] ++ joined (drop (suc at) runs)) = (All-split (λ (x : Kept). FitsSigned w64 x.value) (joined (take at runs)) (get_or runs at [] ++ joined (drop (suc at) runs)) whole).1 in
    All-map_of (FitsSigned w64) (λ (x : Kept). x.value) (get_or runs at []) (All-split (λ (x : Kept). FitsSigned w64 x.value) (get_or runs at []) (joined (drop (suc at) runs)) behind).0

-- a slice is a run
pub run_of : (runs : List (List Kept)) (at : ℕ) → at < length runs → AreInOrder runs → IsRun IsNear (get_or runs at [])
run_of runs at l o = part_at (take at runs) (get_or runs at []) (drop (suc at) runs) (subst AreInOrder (in_parts runs at l) o)

-- a slice begins and ends within the limits
pub ends_in_time : (runs : List (List Kept)) (at : ℕ) → at < length runs → AreSlices runs → (first_time (get_or runs at []) ≤ TIME_MAX) × (last_time (get_or runs at []) ≤ TIME_MAX)
ends_in_time runs at l h =
    let p = get_or runs at [] in
    let whole : All (λ (x : Kept). x.time ≤ TIME_MAX) (joined (take at runs) ++ (p ++ joined (drop (suc at) runs))) = subst (All (λ (x : Kept). x.time ≤ TIME_MAX)) (joined_parts runs at l) h.in_time in
    let behind : All (λ (x : Kept). x.time ≤ TIME_MAX) (p ++ joined (drop (suc at) runs)) = (All-split (λ (x : Kept). x.time ≤ TIME_MAX) (joined (take at runs)) (p ++ joined (drop (suc at) runs)) whole).1 in
    let own : All (λ (x : Kept). x.time ≤ TIME_MAX) p = (All-split (λ (x : Kept). x.time ≤ TIME_MAX) p (joined (drop (suc at) runs)) behind).0 in
    let r : IsRun IsNear p = run_of runs at l h.ordered in
    let last : last_time p ≤ TIME_MAX = end_of p r own in
    let f : first_time p ≤ last_time p = first_below_last p r in
    (omega arith, last)
  where
    end_of : (p : List Kept) → IsRun IsNear p → All (λ (x : Kept). x.time ≤ TIME_MAX) p → last_time p ≤ TIME_MAX
    end_of [] r a = absurd r
    end_of (x ∷ []) r a = All-head (λ (x : Kept). x.time ≤ TIME_MAX) x [] a
    end_of (x ∷ y ∷ ys) r a = end_of (y ∷ ys) r.1 (All-tail (λ (x : Kept). x.time ≤ TIME_MAX) x (y ∷ ys) a)

pub all_end : (runs : List (List Kept)) → AreSlices runs → All (λ run. last_time run ≤ TIME_MAX) runs
all_end runs h k d l = subst (λ run. last_time run ≤ TIME_MAX) (sym (get_or_default runs k d [] l)) (ends_in_time runs k l h).1

-- ---- the place of a tuple in a slice
pub put_at_end : (p : List Kept) (x : Kept) → IsRun IsNear p → last_time p ≤ x.time → put_in_order p x ≡ p ++ x ∷ []
put_at_end p x r l =
    ap (λ q. put_in_order q x) (sym (append-nil p))
    ∙ put_far p [] x (λ k d h. let g : (get_or p k d).time ≤ last_time p = run_below_last p r k d h in omega (arith, l))

pub put_at_front : (q : List Kept) (x : Kept) → IsRun IsNear q → x.time < first_time q → put_in_order q x ≡ x ∷ q
put_at_front [] x r l = absurd r
put_at_front (y ∷ q) x r l = put_first y q x (lt-ltb x.time y.time l)

pub put_in_front : (q : List Kept) (x : Kept) → IsRun IsNear q → x.time < first_time q → put_in_order q x ≡ x ∷ q
put_in_front q x r l = put_at_front q x r l

-- a tuple between two slices
pub put_between : (p q : List Kept) (x : Kept) → IsRun IsNear p → IsRun IsNear q → last_time p ≤ x.time → x.time < first_time q → put_in_order (p ++ q) x ≡ p ++ x ∷ q
put_between p q x r s low high =
    put_far p q x (λ k d h. let g : (get_or p k d).time ≤ last_time p = run_below_last p r k d h in omega (arith, low))
    ∙ ap (λ l. p ++ l) (put_at_front q x s high)

pub first_behind : (p : List Kept) (x : Kept) → IsRun IsNear p → first_time p ≤ x.time → first_time (put_in_order p x) ≡ first_time p
first_behind [] x r l = absurd r
first_behind (y ∷ ys) x r l = ap first_time (put_behind y ys x (le-ltb x.time y.time l))

-- ---- slices that are entered
take_none : {X : Type 0} (xs : List X) → take 0 xs ≡ []
take_none [] = refl
take_none (x ∷ xs) = refl

none_between : (at : ℕ) (runs : List (List Kept)) → slices_between at at runs ≡ []
none_between at runs = ap (λ n. take n (drop at runs)) (let e : at - at ≡ 0 = omega arith in e) ∙ take_none (drop at runs)

pub one_between : (at to : ℕ) (runs : List (List Kept)) → to ≡ at + 1 → at < length runs → joined (slices_between at to runs) ≡ get_or runs at []
one_between at to runs e l =
    ap joined (ap (λ n. take n (drop at runs)) (let h : to - at ≡ 1 = omega arith in h) ∙ ap (take 1) (drop-cons runs at [] l) ∙ ap (λ l. get_or runs at [] ∷ l) (take_none (drop (suc at) runs)))
    ∙ append-nil (get_or runs at [])

pub two_between : (at to : ℕ) (runs : List (List Kept)) → to ≡ at + 2 → suc at < length runs → joined (slices_between at to runs) ≡ get_or runs at [] ++ get_or runs (suc at) []
two_between at to runs e l =
    ap joined
    (ap (λ n. take n (drop at runs)) (let h : to - at ≡ 2 = omega arith in h)
    ∙ ap (take 2) (drop-cons runs at [] (omega arith) ∙ ap (λ l. get_or runs at [] ∷ l) (drop-cons runs (suc at) [] l))
    ∙ ap (λ l. get_or runs at [] ∷ get_or runs (suc at) [] ∷ l) (take_none (drop (suc (suc at)) runs)))
    ∙ ap (λ l. get_or runs at [] ++ l) (append-nil (get_or runs (suc at) []))

pub entered_none : (at : ℕ) (x : Kept) (runs : List (List Kept)) → entered_at at at x runs ≡ take at runs ++ (x ∷ []) ∷ drop at runs
entered_none at x runs = ap (λ l. take at runs ++ put_in_order (joined l) x ∷ drop at runs) (none_between at runs)

pub entered_one : (at to : ℕ) (x : Kept) (runs : List (List Kept)) → to ≡ at + 1 → at < length runs → entered_at at to x runs ≡ take at runs ++ put_in_order (get_or runs at []) x ∷ drop (suc at) runs
entered_one at to x runs e l =
    (λ i. take at runs ++ put_in_order (one_between at to runs e l i) x ∷ drop to runs)
    ∙ ap (λ n. take at runs ++ put_in_order (get_or runs at []) x ∷ drop n runs) (let h : to ≡ suc at = omega arith in h)

pub entered_two : (at to : ℕ) (x : Kept) (runs : List (List Kept)) → to ≡ at + 2 → suc at < length runs → entered_at at to x runs ≡ take at runs ++ put_in_order (get_or runs at [] ++ get_or runs (suc at) []) x ∷ drop (suc (suc at)) runs
entered_two at to x runs e l =
    (λ i. take at runs ++ put_in_order (two_between at to runs e l i) x ∷ drop to runs)
    ∙ ap (λ n. take at runs ++ put_in_order (get_or runs at [] ++ get_or runs (suc at) []) x ∷ drop n runs) (let h : to ≡ suc (suc at) = omega arith in h)

-- the slice with it, as it is read
pub entered_there : (runs : List (List Kept)) (at to : ℕ) (x : Kept) → to ≡ at + 1 → at < length runs → get_or (entered_at at to x runs) at [] ≡ put_in_order (get_or runs at []) x
entered_there runs at to x e l =
    ap (λ rs. get_or rs at []) (entered_one at to x runs e l)
    ∙ ap (λ n. get_or (take at runs ++ put_in_order (get_or runs at []) x ∷ drop (suc at) runs) n []) (sym (let h : length (take at runs) ≡ at = omega (arith, length-take at runs) in h))
    ∙ get_or-append_seam (take at runs) (put_in_order (get_or runs at []) x) (drop (suc at) runs) []

-- and how many tuples it has
pub refolded_length : (runs : List (List Kept)) (at to : ℕ) (x : Kept) → to ≡ at + 1 → at < length runs → length (put_in_order (get_or runs at []) x) ≡ length (joined (slices_between at to runs)) + 1
refolded_length runs at to x e l = put_length (get_or runs at []) x ∙ ap (λ r. length r + 1) (sym (one_between at to runs e l))
