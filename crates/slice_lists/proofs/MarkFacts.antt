-- What a mark makes of slices.
use Rattle.std.proofs.Common.{◌≡◌, ◌∙◌, ℕ, suc, ◌+◌, ◌-◌, ◌<◌, ◌≤◌, true, false, cond, List, [], ◌∷◌, ◌++◌, length, get_or, take, drop, ap, sym, refl, subst, arith, inl, inr, append_assoc}
use Rattle.std.specs.Prelude.{◌⊎◌, nat_le, nat_lt}
use Rattle.std.specs.BTreeSet.{insert_key}
use Rattle.std.specs.List.{All, filter, flat_map, list_any}
use Rattle.std.specs.List.Sorted.{IsStrictlyIncreasing}
use Rattle.std.specs.Ordering.{nat_cmp}
use Rattle.std.proofs.lemmas.Cmp.{nat_cmp_total}
use Rattle.std.proofs.lemmas.Map.Keys.{IsStrictlyIncreasing-from_sorted, sorted_from_strictly_increasing}
use Rattle.stream_base.proofs.Rising.{sorted_insert_key}
use Rattle.std.proofs.lemmas.Bool.{and_from, and_left, and_right, cases_lt, le-leb, le-ltb, lt-leb, lt-ltb}
use Rattle.std.proofs.lemmas.List.{get_or_default, get_or-drop, get_or-take, length-append, length-drop, length-take}
use Rattle.std.proofs.lemmas.List.Concat.{flat_map-append}
use Rattle.std.proofs.lemmas.List.Elements.{All-head, All-tail}
use Rattle.std.proofs.lemmas.List.Folds.{list_any_at, list_any_none}
use Rattle.std.proofs.Math.Seq.{get_or-append_seam}
use Rattle.stream_base.specs.declared.def.Def.{Def}
use Rattle.stream_base.specs.declared.kept.Kept.{Kept}
use Rattle.stream_base.specs.Model.Cuts.{has_cut}
use Rattle.stream_base.specs.Model.Slices.{runs_of}
use Rattle.stream_base.specs.Model.Windows.{first_time, last_time}
use Rattle.stream_base.proofs.Pieces.{pieces_joined}
use Rattle.stream_base.specs.Places.{IsPlaceOf}
use Rattle.slice_lists.specs.Runs.{AreInOrder, parted_at}
use Rattle.slice_lists.proofs.MarkRuns.{runs_after_mark}
use Rattle.slice_lists.specs.Touched.{is_across}
use Rattle.slice_lists.specs.Sides.{IsAcrossAt}
use Rattle.slice_lists.specs.Slices.{joined, split_at}
use Rattle.slice_lists.proofs.NearFacts.{neighbours, stretch}
use Rattle.slice_lists.proofs.SliceFacts.{one_between}
use Rattle.slice_lists.proofs.SliceOrder.{IsApart, IsNear, times_of_order}
use Rattle.slice_lists.proofs.SliceParts.{in_parts}

-- ---- slices under one mark more
module _ (time : ℕ) where
  -- none is split
  pub none_split : (slices : List (List Kept)) → All (λ run. is_across time run ≡ false) slices → flat_map (parted_at time) slices ≡ slices
  none_split [] a = refl
  none_split (run ∷ slices) a =
      ap (λ l. l ++ flat_map (parted_at time) slices) (ap (λ b. cond b (filter (λ (x : Kept). nat_lt x.time time) run ∷ filter (λ (x : Kept). nat_le time x.time) run ∷ []) (run ∷ [])) (All-head (λ run. is_across time run ≡ false) run slices a))
      ∙ ap (λ l. run ∷ l) (none_split slices (All-tail (λ run. is_across time run ≡ false) run slices a))

module _ (slices : List (List Kept)) (time : ℕ) (o : AreInOrder slices) where
  not_behind : (begun : ℕ) → IsPlaceOf first_time slices time begun → (k : ℕ) → begun ≤ k → k < length slices → is_across time (get_or slices k []) ≡ false
  not_behind begun h k l m = and_left (nat_lt (first_time (get_or slices k [])) time) (nat_le time (last_time (get_or slices k []))) (le-ltb (first_time (get_or slices k [])) time (h.behind k [] l m))

  not_before : (begun : ℕ) → IsPlaceOf first_time slices time begun → (k : ℕ) → suc k < begun → is_across time (get_or slices k []) ≡ false
  not_before begun h k l =
      let inside : suc k < length slices = omega (arith, h.within) in
      let step : last_time (get_or slices k []) < first_time (get_or slices (suc k) []) = neighbours IsNear IsApart slices o k inside in
      let next : first_time (get_or slices (suc k) []) < time = h.before (suc k) [] (omega arith) l in
      and_right (nat_lt (first_time (get_or slices k [])) time) (nat_le time (last_time (get_or slices k []))) (lt-leb time (last_time (get_or slices k [])) (omega arith))

  by_index : ((k : ℕ) → k < length slices → is_across time (get_or slices k []) ≡ false) → All (λ run. is_across time run ≡ false) slices
  by_index f k d l = ap (is_across time) (get_or_default slices k d [] l) ∙ f k l

  -- none is across where none has begun, or the last that has ends before
  pub none_begun : IsPlaceOf first_time slices time 0 → All (λ run. is_across time run ≡ false) slices
  none_begun h = by_index (λ k l. not_behind 0 h k (omega arith) l)

  pub last_ended : (begun : ℕ) → IsPlaceOf first_time slices time begun → 0 < begun → last_time (get_or slices (begun - 1) []) < time → All (λ run. is_across time run ≡ false) slices
  last_ended begun h n e = by_index (λ k l. by k (cases_lt (suc k) begun) l)
    where
      by : (k : ℕ) → (suc k < begun) ⊎ (begun ≤ suc k) → k < length slices → is_across time (get_or slices k []) ≡ false
      by k (inl m) l = not_before begun h k m
      by k (inr m) l =
          elim (cases_lt k begun) [
            | inl p ↦ (
                let same : begun - 1 ≡ k = omega arith in
                subst (λ n. is_across time (get_or slices n []) ≡ false) same (and_right (nat_lt (first_time (get_or slices (begun - 1) [])) time) (nat_le time (last_time (get_or slices (begun - 1) []))) (lt-leb time (last_time (get_or slices (begun - 1) [])) e)))
            | inr p ↦ not_behind begun h k p l
          ]

  pub none_any : All (λ run. is_across time run ≡ false) slices → false ≡ list_any (is_across time) slices
  none_any a = sym (list_any_none (is_across time) slices a)

  -- the one that is across
  module _ (at : ℕ) (h : IsAcrossAt slices time at) where
    is_across_there : is_across time (get_or slices at []) ≡ true
    is_across_there = and_from (nat_lt (first_time (get_or slices at [])) time) (nat_le time (last_time (get_or slices at []))) (lt-ltb (first_time (get_or slices at [])) time h.before) (le-leb time (last_time (get_or slices at [])) h.behind)

    pub one_any : true ≡ list_any (is_across time) slices
    one_any = sym (list_any_at (is_across time) slices at [] h.within is_across_there)

    pub across_alone : joined (filter (is_across time) slices) ≡ get_or slices at []
    across_alone =
        ap joined (stretch (is_across time) slices at (at + 1) [] (omega arith) (omega (arith, h.within))
        (λ k l. not_before (at + 1) h.place k (omega arith))
        (λ k l m. subst (λ n. is_across time (get_or slices n []) ≡ true) (let s : at ≡ k = omega arith in s) is_across_there)
        (λ k l m. not_behind (at + 1) h.place k l m))
        ∙ one_between at (at + 1) slices refl h.within

    front_none : All (λ run. is_across time run ≡ false) (take at slices)
    front_none k d l =
        let below : k < at = omega (arith, length-take at slices) in
        ap (is_across time) (get_or-take at slices k d below ∙ get_or_default slices k d [] (omega (arith, h.within))) ∙ not_before (at + 1) h.place k (omega arith)

    back_none : All (λ run. is_across time run ≡ false) (drop (suc at) slices)
    back_none k d l =
        let inside : suc at + k < length slices = omega (arith, length-drop (suc at) slices) in
        ap (is_across time) (get_or-drop (suc at) slices k d ∙ get_or_default slices (suc at + k) d [] inside) ∙ not_behind (at + 1) h.place (suc at + k) (omega arith) inside

    pub one_split : split_at at time slices ≡ flat_map (parted_at time) slices
    one_split =
        sym (
        ap (flat_map (parted_at time)) (in_parts slices at h.within)
        ∙ flat_map-append (parted_at time) (take at slices) (get_or slices at [] ∷ drop (suc at) slices)
        ∙ ap (λ l. l ++ (parted_at time (get_or slices at []) ++ flat_map (parted_at time) (drop (suc at) slices))) (none_split time (take at slices) front_none)
        ∙ ap (λ l. take at slices ++ (parted_at time (get_or slices at []) ++ l)) (none_split time (drop (suc at) slices) back_none)
        ∙ ap (λ b. take at slices ++ (cond b (filter (λ (x : Kept). nat_lt x.time time) (get_or slices at []) ∷ filter (λ (x : Kept). nat_le time x.time) (get_or slices at []) ∷ []) (get_or slices at [] ∷ []) ++ drop (suc at) slices)) is_across_there)

-- marks with one more rise
pub rising_more : (marks : List ℕ) (time : ℕ) → IsStrictlyIncreasing marks → IsStrictlyIncreasing (insert_key nat_cmp marks time)
rising_more marks time h = IsStrictlyIncreasing-from_sorted (insert_key nat_cmp marks time) (sorted_insert_key nat_cmp_total time marks (sorted_from_strictly_increasing marks h))

-- ---- they are the slices under the marks with one more
module _ (windows : List Def) (marks : List ℕ) (slices new : List (List Kept)) (time : ℕ) (o : AreInOrder slices) (e : slices ≡ runs_of windows marks (joined slices)) (is : new ≡ flat_map (parted_at time) slices) where
  of_tuples : new ≡ runs_of windows (insert_key nat_cmp marks time) (joined slices)
  of_tuples = is ∙ ap (flat_map (parted_at time)) e ∙ sym (runs_after_mark windows marks (joined slices) time (times_of_order slices o))

  pub same_tuples : joined new ≡ joined slices
  same_tuples = ap joined of_tuples ∙ pieces_joined (λ x y. has_cut windows (insert_key nat_cmp marks time) x.time y.time) (joined slices)

  pub marked_sliced : new ≡ runs_of windows (insert_key nat_cmp marks time) (joined new)
  marked_sliced = of_tuples ∙ ap (runs_of windows (insert_key nat_cmp marks time)) (sym same_tuples)

-- ---- the two slices
pub parts_length : (time : ℕ) (run : List Kept) → length (filter (λ (x : Kept). nat_lt x.time time) run) + length (filter (λ (x : Kept). nat_le time x.time) run) ≡ length run
parts_length time [] = omega arith
parts_length time (x ∷ xs) =
    elim (cases_lt x.time time) [
      | inl l ↦ omega (arith, parts_length time xs, ap (λ b. length (cond b (x ∷ filter (λ (x : Kept). nat_lt x.time time) xs) (filter (λ (x : Kept). nat_lt x.time time) xs))) (lt-ltb x.time time l), ap (λ b. length (cond b (x ∷ filter (λ (x : Kept). nat_le time x.time) xs) (filter (λ (x : Kept). nat_le time x.time) xs))) (lt-leb time x.time l))
      | inr l ↦ omega (arith, parts_length time xs, ap (λ b. length (cond b (x ∷ filter (λ (x : Kept). nat_lt x.time time) xs) (filter (λ (x : Kept). nat_lt x.time time) xs))) (le-ltb x.time time l), ap (λ b. length (cond b (x ∷ filter (λ (x : Kept). nat_le time x.time) xs) (filter (λ (x : Kept). nat_le time x.time) xs))) (le-leb time x.time l))
    ]

pub first_front : (time : ℕ) (run : List Kept) → first_time run < time → first_time (filter (λ (x : Kept). nat_lt x.time time) run) ≡ first_time run
first_front time [] l = refl
first_front time (x ∷ xs) l = ap (λ b. first_time (cond b (x ∷ filter (λ (x : Kept). nat_lt x.time time) xs) (filter (λ (x : Kept). nat_lt x.time time) xs))) (lt-ltb x.time time l)

module _ (runs : List (List Kept)) (at time : ℕ) (l : at < length runs) where
  abbrev front : List Kept
  front = filter (λ (x : Kept). nat_lt x.time time) (get_or runs at [])

  abbrev back : List Kept
  back = filter (λ (x : Kept). nat_le time x.time) (get_or runs at [])

  place_is : length (take at runs) ≡ at
  place_is = omega (arith, length-take at runs)

  pub split_first : get_or (split_at at time runs) at [] ≡ filter (λ (x : Kept). nat_lt x.time time) (get_or runs at [])
  split_first =
      ap (λ n. get_or (split_at at time runs) n []) (sym place_is) ∙ get_or-append_seam (take at runs) front (back ∷ drop (suc at) runs) []

  pub in_front : split_at at time runs ≡ (take at runs ++ front ∷ []) ++ back ∷ drop (suc at) runs
  in_front = sym (append_assoc (take at runs) (front ∷ []) (back ∷ drop (suc at) runs))

  pub split_second : get_or (split_at at time runs) (at + 1) [] ≡ filter (λ (x : Kept). nat_le time x.time) (get_or runs at [])
  split_second =
      (λ i. get_or (in_front i) (sym (length-append (take at runs) (front ∷ []) ∙ ap (λ n. n + 1) place_is) i) [])
      ∙ get_or-append_seam (take at runs ++ front ∷ []) back (drop (suc at) runs) []

  pub split_longer : length (split_at at time runs) ≡ length runs + 1
  split_longer = omega (arith, length-append (take at runs) (front ∷ back ∷ drop (suc at) runs), place_is, length-drop (suc at) runs)
