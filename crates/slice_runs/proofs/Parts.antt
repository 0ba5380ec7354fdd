-- The tuples of a slice, and those of it on one side of a time, as a range among the tuples of all.
use Rattle.std.proofs.Common.{◌≡◌, ◌∙◌, ℕ, suc, ◌+◌, ◌<◌, ◌≤◌, Bool, true, false, cond, List, [], ◌∷◌, ◌++◌, length, get_or, take, drop, ap, sym, refl, subst, arith, inl, inr}
use Rattle.std.specs.Prelude.{◌&&◌, nat_le, nat_lt}
use Rattle.std.specs.List.{All, filter}
use Rattle.std.proofs.lemmas.Bool.{and_from, and_left, and_right, cases_lt, le-leb, le-ltb, lt-leb, lt-ltb}
use Rattle.std.proofs.lemmas.List.{append-nil}
use Rattle.std.proofs.lemmas.List.Elements.{All-cons, All-head, All-tail, All-weaker, filter-append}
use Rattle.stream_base.specs.declared.kept.Kept.{Kept}
use Rattle.stream_base.specs.Laws.{TimesDoNotFall}
use Rattle.stream_base.specs.Model.Windows.{first_time, is_within, last_time, within}
use Rattle.stream_base.proofs.Filters.{filter_all, filter_none}
use Rattle.slice_lists.specs.Runs.{AreInOrder, IsRun}
use Rattle.slice_lists.proofs.Order.{nd_head, nd_tail}
use Rattle.slice_lists.specs.declared.slice.Slice.{Slice}
use Rattle.slice_lists.specs.Slices.{joined, slice_of}
use Rattle.slice_lists.proofs.SliceOrder.{IsNear, above_slice, behind_at, below_slice, part_at, run_above_first, run_below_last}
use Rattle.slice_lists.proofs.SliceParts.{in_parts, joined_parts}
use Rattle.slice_lists.proofs.SplitFacts.{run_in_order}

-- two tests that agree on all elements keep the same ones
same_kept : (p q : Kept → Bool) (xs : List Kept) → All (λ x. p x ≡ q x) xs → filter p xs ≡ filter q xs
same_kept p q [] a = refl
same_kept p q (x ∷ xs) a =
    ap (λ b. cond b (x ∷ filter p xs) (filter p xs)) (All-head (λ x. p x ≡ q x) x xs a)
    ∙ ap (λ l. cond (q x) (x ∷ l) l) (same_kept p q xs (All-tail (λ x. p x ≡ q x) x xs a))

-- no more elements are kept than there are
pub fewer_kept : (p : Kept → Bool) (xs : List Kept) → length (filter p xs) ≤ length xs
fewer_kept p [] = omega arith
fewer_kept p (x ∷ xs) = by (p x) (fewer_kept p xs)
  where
    by : (b : Bool) → length (filter p xs) ≤ length xs → length (cond b (x ∷ filter p xs) (filter p xs)) ≤ length (x ∷ xs)
    by true h = omega arith
    by false h = omega arith

-- ---- a slice as a range
module _ (runs : List (List Kept)) (at : ℕ) (l : at < length runs) (o : AreInOrder runs) where
  abbrev run : List Kept
  run = get_or runs at []

  order : AreInOrder (take at runs ++ get_or runs at [] ∷ drop (suc at) runs)
  order = subst AreInOrder (in_parts runs at l) o

  own_run : IsRun IsNear (get_or runs at [])
  own_run = part_at (take at runs) run (drop (suc at) runs) order

  -- a range that ends with the slice or before, and begins with it or behind, has none of the other slices
  within_one : (low high : ℕ) → first_time (get_or runs at []) ≤ low → high ≤ last_time (get_or runs at []) + 1 → within low high (joined runs) ≡ filter (is_within low high) (get_or runs at [])
  within_one low high from to =
      ap (filter (is_within low high)) (joined_parts runs at l)
      ∙ filter-append (is_within low high) (joined (take at runs)) (run ++ joined (drop (suc at) runs))
      ∙ (λ i. filter_none (is_within low high) (joined (take at runs)) early i ++ filter-append (is_within low high) run (joined (drop (suc at) runs)) i)
      ∙ ap (λ r. filter (is_within low high) run ++ r) (filter_none (is_within low high) (joined (drop (suc at) runs)) late)
      ∙ append-nil (filter (is_within low high) run)
    where
      early : All (λ (x : Kept). is_within low high x ≡ false) (joined (take at runs))
      early =
          All-weaker (λ (x : Kept). x.time < first_time run) (λ x. is_within low high x ≡ false)
          (λ x m. and_left (nat_le low x.time) (nat_lt x.time high) (lt-leb low x.time (omega arith)))
          (joined (take at runs)) (below_slice (take at runs) run (drop (suc at) runs) order)

      late : All (λ (x : Kept). is_within low high x ≡ false) (joined (drop (suc at) runs))
      late =
          let b = behind_at (take at runs) run (drop (suc at) runs) order in
          All-weaker (λ (x : Kept). last_time run < x.time) (λ x. is_within low high x ≡ false)
          (λ x m. and_right (nat_le low x.time) (nat_lt x.time high) (le-ltb x.time high (omega arith)))
          (joined (drop (suc at) runs)) (above_slice run (drop (suc at) runs) b.0 b.1)

  above : All (λ (x : Kept). first_time (get_or runs at []) ≤ x.time) (get_or runs at [])
  above = run_above_first run own_run

  below : All (λ (x : Kept). x.time ≤ last_time (get_or runs at [])) (get_or runs at [])
  below = run_below_last run own_run

  whole_within : within (first_time (get_or runs at [])) (last_time (get_or runs at []) + 1) (joined runs) ≡ get_or runs at []
  whole_within =
      within_one (first_time run) (last_time run + 1) (omega arith) (omega arith)
      ∙ filter_all (is_within (first_time run) (last_time run + 1)) run (λ k d m.
      and_from (nat_le (first_time run) (get_or run k d).time) (nat_lt (get_or run k d).time (last_time run + 1))
      (le-leb (first_time run) (get_or run k d).time (above k d m))
      (lt-ltb (get_or run k d).time (last_time run + 1) (let h : (get_or run k d).time ≤ last_time run = below k d m in omega arith)))

  -- the tuples of the slice before a time, and those from it on
  front_within : (time : ℕ) → time ≤ last_time (get_or runs at []) → within (first_time (get_or runs at [])) time (joined runs) ≡ filter (λ x. nat_lt x.time time) (get_or runs at [])
  front_within time behind =
      within_one (first_time run) time (omega arith) (omega arith)
      ∙ same_kept (is_within (first_time run) time) (λ x. nat_lt x.time time) run (λ k d m.
      ap (λ b. b && nat_lt (get_or run k d).time time) (le-leb (first_time run) (get_or run k d).time (above k d m)))

  back_within : (time : ℕ) → first_time (get_or runs at []) < time → within time (last_time (get_or runs at []) + 1) (joined runs) ≡ filter (λ x. nat_le time x.time) (get_or runs at [])
  back_within time before =
      within_one time (last_time run + 1) (omega arith) (omega arith)
      ∙ same_kept (is_within time (last_time run + 1)) (λ x. nat_le time x.time) run (λ k d m.
      ap (λ b. nat_le time (get_or run k d).time && b) (lt-ltb (get_or run k d).time (last_time run + 1) (let h : (get_or run k d).time ≤ last_time run = below k d m in omega arith))
      ∙ and_true (nat_le time (get_or run k d).time))
    where
      and_true : (b : Bool) → (b && true) ≡ b
      and_true true = refl
      and_true false = refl

  -- where a slice shows so
  module _ (tuples : List Kept) (e : joined runs ≡ tuples) (s : Slice) (shown : s ≡ slice_of (get_or runs at [])) where
    pub whole_shown : within s.low (s.high + 1) tuples ≡ get_or runs at []
    whole_shown = (λ i. within (shown i).low ((shown i).high + 1) (sym e i)) ∙ whole_within

    pub front_shown : (time : ℕ) → time ≤ last_time (get_or runs at []) → within s.low time tuples ≡ filter (λ x. nat_lt x.time time) (get_or runs at [])
    front_shown time behind = (λ i. within (shown i).low time (sym e i)) ∙ front_within time behind

    pub back_shown : (time : ℕ) → first_time (get_or runs at []) < time → within time (s.high + 1) tuples ≡ filter (λ x. nat_le time x.time) (get_or runs at [])
    back_shown time before = (λ i. within time ((shown i).high + 1) (sym e i)) ∙ back_within time before

  -- both parts together are the slice
  pub both_parts : (time : ℕ) → get_or runs at [] ≡ filter (λ x. nat_lt x.time time) (get_or runs at []) ++ filter (λ x. nat_le time x.time) (get_or runs at [])
  both_parts time = parts run (run_in_order run own_run)
    where
      parts : (xs : List Kept) → TimesDoNotFall xs → xs ≡ filter (λ x. nat_lt x.time time) xs ++ filter (λ x. nat_le time x.time) xs
      parts [] h = refl
      parts (x ∷ xs) h =
          elim (cases_lt x.time time) [
            | inl m ↦ ap (λ r. x ∷ r) (parts xs (nd_tail (λ (y : Kept). y.time) x xs h))
                ∙ (λ i. cond (sym (lt-ltb x.time time m) i) (x ∷ filter (λ (y : Kept). nat_lt y.time time) xs) (filter (λ (y : Kept). nat_lt y.time time) xs)
                ++ cond (sym (lt-leb time x.time m) i) (x ∷ filter (λ (y : Kept). nat_le time y.time) xs) (filter (λ (y : Kept). nat_le time y.time) xs))
            | inr m ↦ (
                let later : All (λ (y : Kept). time ≤ y.time) (x ∷ xs) = All-cons (λ (y : Kept). time ≤ y.time) x xs m (All-weaker (λ (y : Kept). x.time ≤ y.time) (λ y. time ≤ y.time) (λ y g. omega arith) xs (nd_head (λ (y : Kept). y.time) x xs h)) in
                (λ i. sym (filter_none (λ (y : Kept). nat_lt y.time time) (x ∷ xs) (All-weaker (λ (y : Kept). time ≤ y.time) (λ y. nat_lt y.time time ≡ false) (λ y g. le-ltb y.time time g) (x ∷ xs) later)) i
                ++ sym (filter_all (λ (y : Kept). nat_le time y.time) (x ∷ xs) (All-weaker (λ (y : Kept). time ≤ y.time) (λ y. nat_le time y.time ≡ true) (λ y g. le-leb time y.time g) (x ∷ xs) later)) i))
          ]

-- ---- neither part is empty
pub some_front : (run : List Kept) (time : ℕ) → 0 < length run → first_time run < time → 0 < length (filter (λ x. nat_lt x.time time) run)
some_front [] time n l = absurd (omega arith)
some_front (x ∷ xs) time n l = omega (arith, ap (λ b. length (cond b (x ∷ filter (λ (y : Kept). nat_lt y.time time) xs) (filter (λ (y : Kept). nat_lt y.time time) xs))) (lt-ltb x.time time l))

pub some_back : (run : List Kept) (time : ℕ) → 0 < length run → time ≤ last_time run → 0 < length (filter (λ x. nat_le time x.time) run)
some_back [] time n l = absurd (omega arith)
some_back (x ∷ []) time n l = omega (arith, ap (λ b. length (cond b (x ∷ []) [])) (le-leb time x.time l))
some_back (x ∷ y ∷ ys) time n l = more (nat_le time x.time) (filter (λ (z : Kept). nat_le time z.time) (y ∷ ys)) (some_back (y ∷ ys) time (omega arith) l)
  where
    more : (b : Bool) (zs : List Kept) → 0 < length zs → 0 < length (cond b (x ∷ zs) zs)
    more true zs h = omega arith
    more false zs h = h
