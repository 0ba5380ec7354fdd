-- The place of a slice among all tuples.
use Rattle.std.proofs.Common.{◌≡◌, ◌∙◌, ℕ, suc, ◌+◌, ◌-◌, ◌<◌, ◌≤◌, List, [], ◌∷◌, ◌++◌, length, get_or, take, drop, ap, sym, refl, subst, arith, inl, inr}
use Rattle.std.specs.List.{All}
use Rattle.std.proofs.lemmas.Bool.{cases_lt}
use Rattle.std.proofs.lemmas.List.{append-nil, length-append, length-drop, get_or_append_left}
use Rattle.std.proofs.lemmas.List.Concat.{flat_map-append}
use Rattle.std.proofs.lemmas.List.Elements.{All-append, All-head, All-tail, All-weaker}
use Rattle.std.proofs.Math.Seq.{split_at, take-length}
use Rattle.stream_base.specs.declared.kept.Kept.{Kept}
use Rattle.stream_base.specs.Model.Windows.{first_time, last_time}
use Rattle.stream_base.specs.Places.{IsPlaceOf}
use Rattle.slice_lists.specs.Runs.{AreInOrder, IsRun}
use Rattle.slice_lists.specs.Slices.{joined}
use Rattle.slice_lists.proofs.PlaceFacts.{some_tuple}
use Rattle.slice_lists.proofs.SliceEdits.{drop_own, take_own}
use Rattle.slice_lists.proofs.SliceOrder.{IsNear, above_slice, behind_at, below_slice, first_below_last, part_at, run_above_first}

-- all from a place to the end
pub part_to_end : {X : Type 0} (xs : List X) (n : ℕ) → take (length xs - n) (drop n xs) ≡ drop n xs
part_to_end xs n = ap (λ k. take k (drop n xs)) (sym (length-drop n xs)) ∙ take-length (drop n xs)

-- so many lie before a time as the first of two parts has
pub place_between : (xs ys : List Kept) (time place : ℕ) → All (λ x. x.time < time) xs → All (λ y. time ≤ y.time) ys → IsPlaceOf (λ x. x.time) (xs ++ ys) time place → place ≡ length xs
place_between xs ys time place low high h =
    let n : length (xs ++ ys) ≡ length xs + length ys = length-append xs ys in
    elim (cases_lt place (length xs)) [
      | inl l ↦ absurd (
          let a : (get_or xs place some_tuple).time < time = low place some_tuple l in
          let b : time ≤ (get_or (xs ++ ys) place some_tuple).time = h.behind place some_tuple (omega arith) (omega (arith, n)) in
          omega (arith, a, b, ap (λ (x : Kept). x.time) (get_or_append_left xs ys some_tuple place l)))
      | inr l ↦ elim (cases_lt (length xs) place) [
        | inl m ↦ absurd (
            let inside : 0 < length ys = omega (arith, n, h.within) in
            let a : time ≤ (get_or ys 0 some_tuple).time = high 0 some_tuple inside in
            let b : (get_or (xs ++ ys) (length xs) some_tuple).time < time = h.before (length xs) some_tuple (omega arith) m in
            omega (arith, a, b, ap (λ (x : Kept). x.time) (first_behind xs ys)))
        | inr m ↦ omega arith
      ]
    ]
  where
    first_behind : (xs ys : List Kept) → get_or (xs ++ ys) (length xs) some_tuple ≡ get_or ys 0 some_tuple
    first_behind [] ys = refl
    first_behind (x ∷ xs) ys = first_behind xs ys

-- a slice among the others
pub in_parts : (runs : List (List Kept)) (at : ℕ) → at < length runs → runs ≡ take at runs ++ get_or runs at [] ∷ drop (suc at) runs
in_parts runs at l = split_at runs at [] l

pub joined_parts : (runs : List (List Kept)) (at : ℕ) → at < length runs → joined runs ≡ joined (take at runs) ++ (get_or runs at [] ++ joined (drop (suc at) runs))
joined_parts runs at l =
    ap joined (in_parts runs at l) ∙ flat_map-append (λ (run : List Kept). run) (take at runs) (get_or runs at [] ∷ drop (suc at) runs)

-- what stands from a slice on begins no earlier than it
from_slice : (before : List (List Kept)) (p : List Kept) (behind : List (List Kept)) → AreInOrder (before ++ p ∷ behind) → All (λ y. first_time p ≤ y.time) (p ++ joined behind)
from_slice before p behind o =
    let r : IsRun IsNear p = part_at before p behind o in
    let f : first_time p ≤ last_time p = first_below_last p r in
    let b = behind_at before p behind o in
    All-append (λ y. first_time p ≤ y.time) p (joined behind) (run_above_first p r)
    (All-weaker (λ (y : Kept). last_time p < y.time) (λ y. first_time p ≤ y.time) (λ y l. omega arith) (joined behind) (above_slice p behind b.0 b.1))

module _ (runs : List (List Kept)) (at start : ℕ) (tuples : List Kept) (l : at < length runs) (o : AreInOrder runs) (e : joined runs ≡ tuples) (h : IsPlaceOf (λ x. x.time) tuples (first_time (get_or runs at [])) start) where
  abbrev before : List Kept
  before = joined (take at runs)

  abbrev run : List Kept
  run = get_or runs at []

  abbrev behind : List Kept
  behind = joined (drop (suc at) runs)

  there : tuples ≡ joined (take at runs) ++ (get_or runs at [] ++ joined (drop (suc at) runs))
  there = sym e ∙ joined_parts runs at l

  pub start_is : start ≡ length (joined (take at runs))
  start_is =
      let order = subst AreInOrder (in_parts runs at l) o in
      place_between before (run ++ behind) (first_time run) start (below_slice (take at runs) run (drop (suc at) runs) order) (from_slice (take at runs) run (drop (suc at) runs) order)
      (subst (λ ts. IsPlaceOf (λ x. x.time) ts (first_time run) start) there h)

  pub part_within : start + length (get_or runs at []) ≤ length tuples
  part_within = omega (arith, start_is, ap length there, length-append before (run ++ behind), length-append run behind)

  pub part_is : take (length (get_or runs at [])) (drop start tuples) ≡ get_or runs at []
  part_is =
      ap (λ ts. take (length run) (drop start ts)) there
      ∙ ap (λ n. take (length run) (drop n (before ++ (run ++ behind)))) start_is
      ∙ ap (take (length run)) (drop_own before (run ++ behind))
      ∙ take_own run behind

-- ---- where slices end
last_behind : (xs ys : List Kept) → 0 < length ys → last_time (xs ++ ys) ≡ last_time ys
last_behind [] ys l = refl
last_behind (x ∷ []) [] l = absurd (omega arith)
last_behind (x ∷ []) (y ∷ ys) l = refl
last_behind (x ∷ z ∷ zs) ys l = last_behind (z ∷ zs) ys l

last_above : (m : ℕ) (y : Kept) (ys : List Kept) → All (λ z. m < z.time) (y ∷ ys) → m < last_time (y ∷ ys)
last_above m y [] a = All-head (λ z. m < z.time) y [] a
last_above m y (z ∷ zs) a = last_above m z zs (All-tail (λ z. m < z.time) y (z ∷ zs) a)

ends_below : (p ys : List Kept) → All (λ y. last_time p < y.time) ys → last_time p ≤ last_time (p ++ ys)
ends_below p [] a = omega (arith, ap last_time (append-nil p))
ends_below p (y ∷ ys) a = omega (arith, last_behind p (y ∷ ys) (omega arith), last_above (last_time p) y ys a)

run_some : (p : List Kept) → IsRun IsNear p → 0 < length p
run_some [] r = absurd r
run_some (x ∷ p) r = omega arith

-- no slice ends behind the last tuple of all
pub slice_ends : (runs : List (List Kept)) (at : ℕ) → at < length runs → AreInOrder runs → last_time (get_or runs at []) ≤ last_time (joined runs)
slice_ends runs at l o =
    let p = get_or runs at [] in
    let before = take at runs in
    let behind = drop (suc at) runs in
    let order : AreInOrder (before ++ p ∷ behind) = subst AreInOrder (in_parts runs at l) o in
    let b = behind_at before p behind order in
    let own : last_time p ≤ last_time (p ++ joined behind) = ends_below p (joined behind) (above_slice p behind b.0 b.1) in
    let some : 0 < length p = run_some p (part_at before p behind order) in
    omega (arith, own, ap last_time (joined_parts runs at l), last_behind (joined before) (p ++ joined behind) (omega (arith, some, length-append p (joined behind))))
