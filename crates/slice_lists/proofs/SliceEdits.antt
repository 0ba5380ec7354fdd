-- Slices after an edit: their tuples, and how they show.
use Rattle.std.proofs.Common.{◌≡◌, ◌∙◌, ℕ, zero, suc, ◌+◌, ◌-◌, ◌^◌, ◌<◌, ◌≤◌, true, false, max, List, [], ◌∷◌, ◌++◌, length, get_or, take, drop, map, ap, sym, refl, subst, arith, inl, inr}
use Rattle.std.specs.Prelude.{◌⊎◌, nat_lt, FitsSigned}
use Rattle.std.specs.Int.{w64}
use Rattle.std.specs.List.{All}
use Rattle.std.specs.List.Sorted.{IsNonDecreasingBy}
use Rattle.std.proofs.lemmas.Bool.{ltb-true, ltb-false}
use Rattle.std.proofs.lemmas.List.{append-nil, take-append-drop, drop-drop, get_or-map, map-append, take-map, drop-map, length-append}
use Rattle.std.proofs.lemmas.List.Concat.{flat_map-append}
use Rattle.std.proofs.lemmas.List.Elements.{All-cons, All-nil, All-weaker}
use Rattle.stream_base.specs.declared.kept.Kept.{Kept}
use Rattle.stream_base.specs.declared.limits.TheConstants.{TIME_MAX}
use Rattle.stream_base.specs.Model.Journal.{put_in_order}
use Rattle.stream_base.specs.Model.Windows.{first_time, last_time}
use Rattle.stream_base.proofs.EventOrder.{All_put}
use Rattle.slice_lists.specs.Runs.{AreInOrder, IsPartFrom, IsRun}
use Rattle.stream_base.proofs.Filters.{cases_of}
use Rattle.slice_lists.proofs.RunFacts.{put_first, put_behind}
use Rattle.slice_lists.proofs.RunEdits.{parted}
use Rattle.slice_lists.specs.declared.slice.Slice.{Slice}
use Rattle.slice_lists.specs.Bounds.{both_of, entered_bounds, entered_of, widened}
use Rattle.slice_lists.specs.Parted.{AreKept, parted_by}
use Rattle.slice_lists.specs.Slices.{AreSlices, entered_at, joined, slice_of, slices_between}
use Rattle.slice_lists.proofs.SliceOrder.{IsApart, IsNear, first_below_last, first_of_both, last_of_both, put_in_slice, run_join}

pub take_own : (r z : List Kept) → take (length r) (r ++ z) ≡ r
take_own [] z = take_none z
  where
    take_none : (z : List Kept) → take 0 z ≡ []
    take_none [] = refl
    take_none (x ∷ z) = refl
take_own (x ∷ r) z = ap (λ l. x ∷ l) (take_own r z)

pub drop_own : (r z : List Kept) → drop (length r) (r ++ z) ≡ z
drop_own [] z = drop_none z
  where
    drop_none : (z : List Kept) → drop 0 z ≡ z
    drop_none [] = refl
    drop_none (x ∷ z) = refl
drop_own (x ∷ r) z = drop_own r z

rebuilt : (runs : List (List Kept)) → parted_by (map slice_of runs) (joined runs) ≡ runs
rebuilt [] = refl
rebuilt (run ∷ runs) = λ i. take_own run (joined runs) i ∷ (ap (parted_by (map slice_of runs)) (drop_own run (joined runs)) ∙ rebuilt runs) i

pub parted_again : (runs : List (List Kept)) (slices : List Slice) (tuples : List Kept) → slices ≡ map slice_of runs → tuples ≡ joined runs → parted_by slices tuples ≡ runs
parted_again runs slices tuples s t = (λ i. parted_by (s i) (t i)) ∙ rebuilt runs

pub kept_again : (runs : List (List Kept)) (slices : List Slice) (tuples : List Kept) → AreSlices runs → slices ≡ map slice_of runs → tuples ≡ joined runs → AreKept slices tuples
kept_again runs slices tuples o s t =
    let p : parted_by slices tuples ≡ runs = parted_again runs slices tuples s t in
    record { together = ap joined p ∙ sym t; shown = s ∙ ap (map slice_of) (sym p); hold = subst AreSlices (sym p) o }

-- a slice in order with a tuple more, as it shows
pub put_length : (p : List Kept) (x : Kept) → length (put_in_order p x) ≡ length p + 1
put_length [] x = refl
put_length (y ∷ ys) x = by (cases_of (nat_lt x.time y.time)) (put_length ys x)
  where
    by : (nat_lt x.time y.time ≡ true) ⊎ (nat_lt x.time y.time ≡ false) → length (put_in_order ys x) ≡ length ys + 1 → length (put_in_order (y ∷ ys) x) ≡ length (y ∷ ys) + 1
    by (inl e) h = ap length (put_first y ys x e) ∙ omega arith
    by (inr e) h = ap length (put_behind y ys x e) ∙ omega arith

put_last : (y : Kept) (ys : List Kept) (x : Kept) → IsRun IsNear (y ∷ ys) → y.time ≤ x.time → last_time (y ∷ put_in_order ys x) ≡ max (last_time (y ∷ ys)) x.time
put_last y [] x r l = omega arith
put_last y (z ∷ zs) x r l = by (cases_of (nat_lt x.time z.time)) (put_last z zs x r.1)
  where
    by : (nat_lt x.time z.time ≡ true) ⊎ (nat_lt x.time z.time ≡ false) → (z.time ≤ x.time → last_time (z ∷ put_in_order zs x) ≡ max (last_time (z ∷ zs)) x.time) → last_time (y ∷ put_in_order (z ∷ zs) x) ≡ max (last_time (y ∷ z ∷ zs)) x.time
    by (inl e) h =
        let f : z.time ≤ last_time (z ∷ zs) = first_below_last (z ∷ zs) r.1 in
        let g : x.time < z.time = ltb-true x.time z.time e in
        ap (λ l. last_time (y ∷ l)) (put_first z zs x e) ∙ omega arith
    by (inr e) h = ap (λ l. last_time (y ∷ l)) (put_behind z zs x e) ∙ h (ltb-false x.time z.time e)

pub widened_slice : (p : List Kept) (x : Kept) → IsRun IsNear p → slice_of (put_in_order p x) ≡ widened (slice_of p) x.time
widened_slice [] x r = absurd r
widened_slice (y ∷ ys) x r = by (cases_of (nat_lt x.time y.time))
  where
    shows : (low high number low' high' number' : ℕ) → low ≡ low' → high ≡ high' → number ≡ number' → record { low = low; high = high; number = number } ≡ (let s : Slice = record { low = low'; high = high'; number = number' } in s)
    shows low high number low' high' number' a b c = λ i. record { low = a i; high = b i; number = c i }

    n : length (put_in_order (y ∷ ys) x) ≡ length (y ∷ ys) + 1
    n = put_length (y ∷ ys) x

    by : (nat_lt x.time y.time ≡ true) ⊎ (nat_lt x.time y.time ≡ false) → slice_of (put_in_order (y ∷ ys) x) ≡ widened (slice_of (y ∷ ys)) x.time
    by (inl e) =
        let f : y.time ≤ last_time (y ∷ ys) = first_below_last (y ∷ ys) r in
        let g : x.time < y.time = ltb-true x.time y.time e in
        shows _ _ _ _ _ _ (ap first_time (put_first y ys x e) ∙ omega arith) (ap last_time (put_first y ys x e) ∙ omega arith) n
    by (inr e) =
        let g : y.time ≤ x.time = ltb-false x.time y.time e in
        shows _ _ _ _ _ _ (ap first_time (put_behind y ys x e) ∙ omega arith) (ap last_time (put_behind y ys x e) ∙ put_last y ys x r g) n

-- ---- a tuple enters the slices from one place up to another
module _ (runs : List (List Kept)) (from to : ℕ) (x : Kept) (le : from ≤ to) where
  abbrev entered : List (List Kept)
  entered = slices_between from to runs

  pub in_three : runs ≡ take from runs ++ (slices_between from to runs ++ drop to runs)
  in_three =
      sym (take-append-drop from runs)
      ∙ ap (λ l. take from runs ++ l) (sym (take-append-drop (to - from) (drop from runs)) ∙ ap (λ l. slices_between from to runs ++ l) (drop-drop (to - from) from runs ∙ ap (λ n. drop n runs) (let e : from + (to - from) ≡ to = omega arith in e)))

  pub joined_in_three : joined runs ≡ joined (take from runs) ++ (joined (slices_between from to runs) ++ joined (drop to runs))
  joined_in_three =
      ap joined in_three
      ∙ flat_map-append (λ (run : List Kept). run) (take from runs) (slices_between from to runs ++ drop to runs)
      ∙ ap (λ l. joined (take from runs) ++ l) (flat_map-append (λ (run : List Kept). run) (slices_between from to runs) (drop to runs))

  pub order_between : AreInOrder runs → AreInOrder (slices_between from to runs)
  order_between o =
      let s = parted IsNear IsApart (take from runs) (slices_between from to runs ++ drop to runs) (subst AreInOrder in_three o) in
      (parted IsNear IsApart (slices_between from to runs) (drop to runs) s.1).0

  pub entered_tuples : AreInOrder (entered_at from to x runs) → put_in_order (joined runs) x ≡ joined (entered_at from to x runs)
  entered_tuples o =
      ap (λ l. put_in_order l x) joined_in_three
      ∙ put_in_slice (take from runs) (joined (slices_between from to runs)) (drop to runs) x o

  pub entered_within : length (joined (slices_between from to runs)) ≤ length (joined runs)
  entered_within =
      omega (arith, ap length joined_in_three, length-append (joined (take from runs)) (joined (slices_between from to runs) ++ joined (drop to runs)), length-append (joined (slices_between from to runs)) (joined (drop to runs)))

both_shown : (p q : List Kept) → IsRun IsNear p → IsRun IsNear q → slice_of (p ++ q) ≡ both_of (slice_of p) (slice_of q)
both_shown p q r s = λ i. record { low = first_of_both p q r i; high = last_of_both p q r s i; number = length-append p q i }

-- how the slices show that have become one with a tuple more
pub entered_shown : (entered : List (List Kept)) (x : Kept) → length entered ≤ 2 → AreInOrder entered → slice_of (put_in_order (joined entered) x) ≡ entered_of (map slice_of entered) x.time
entered_shown [] x l o = refl
entered_shown (p ∷ []) x l o = ap (λ r. slice_of (put_in_order r x)) (append-nil p) ∙ widened_slice p x o.0
entered_shown (p ∷ q ∷ []) x l o =
    ap (λ r. slice_of (put_in_order (p ++ r) x)) (append-nil q)
    ∙ widened_slice (p ++ q) x (run_join p q o.0 o.2.0 (let g : last_time p < first_time q = o.1 in omega arith))
    ∙ ap (λ s. widened s x.time) (both_shown p q o.0 o.2.0)
entered_shown (p ∷ q ∷ r ∷ rs) x l o = absurd (omega arith)

between_shown : (runs : List (List Kept)) (from to : ℕ) → take (to - from) (drop from (map slice_of runs)) ≡ map slice_of (slices_between from to runs)
between_shown runs from to = ap (take (to - from)) (drop-map slice_of from runs) ∙ take-map slice_of (to - from) (drop from runs)

few_between : (runs : List (List Kept)) (from to : ℕ) → to ≤ from + 2 → length (slices_between from to runs) ≤ 2
few_between runs from to few = let h : length (take (to - from) (drop from runs)) ≤ to - from = at_most (to - from) (drop from runs) in omega arith
  where
    at_most : (n : ℕ) (xs : List (List Kept)) → length (take n xs) ≤ n
    at_most zero [] = omega arith
    at_most zero (x ∷ xs) = omega arith
    at_most (suc n) [] = omega arith
    at_most (suc n) (x ∷ xs) = omega (arith, at_most n xs)

-- the one of them
pub entered_one : (runs : List (List Kept)) (bounds : List Slice) (from to : ℕ) (x : Kept) → from ≤ to → to ≤ from + 2 → AreInOrder runs → bounds ≡ map slice_of runs → entered_of (take (to - from) (drop from bounds)) x.time ≡ slice_of (put_in_order (joined (slices_between from to runs)) x)
entered_one runs bounds from to x le few o e =
    ap (λ l. entered_of (take (to - from) (drop from l)) x.time) e
    ∙ ap (λ l. entered_of l x.time) (between_shown runs from to)
    ∙ sym (entered_shown (slices_between from to runs) x (few_between runs from to few) (order_between runs from to x le o))

pub entered_all : (runs : List (List Kept)) (bounds : List Slice) (from to : ℕ) (x : Kept) → from ≤ to → to ≤ from + 2 → AreInOrder runs → bounds ≡ map slice_of runs → entered_bounds from to x.time bounds ≡ map slice_of (entered_at from to x runs)
entered_all runs bounds from to x le few o e =
    (λ i. take from (e i) ++ entered_one runs bounds from to x le few o e i ∷ drop to (e i))
    ∙ (λ i. take-map slice_of from runs i ++ slice_of (put_in_order (joined (slices_between from to runs)) x) ∷ drop-map slice_of to runs i)
    ∙ sym (map-append slice_of (take from runs) (put_in_order (joined (slices_between from to runs)) x ∷ drop to runs))

pub entered_number : (runs : List (List Kept)) (bounds : List Slice) (from to : ℕ) (x : Kept) → from ≤ to → to ≤ from + 2 → AreInOrder runs → bounds ≡ map slice_of runs → (entered_of (take (to - from) (drop from bounds)) x.time).number ≤ length (joined runs) + 1
entered_number runs bounds from to x le few o e =
    omega (arith, ap (λ (s : Slice). s.number) (entered_one runs bounds from to x le few o e), put_length (joined (slices_between from to runs)) x, entered_within runs from to x le)

-- with a tuple within the limits they still hold
pub entered_hold : (runs : List (List Kept)) (from to : ℕ) (x : Kept) → from ≤ to → AreSlices runs → AreInOrder (entered_at from to x runs) → x.time ≤ TIME_MAX → FitsSigned w64 x.value → length (joined runs) + 1 < 2 ^ 64 → AreSlices (entered_at from to x runs)
entered_hold runs from to x le h o time value room = record {
  ordered = o;
  in_time = subst (All (λ (y : Kept). y.time ≤ TIME_MAX)) (entered_tuples runs from to x le o) (All_put (λ (y : Kept). y.time ≤ TIME_MAX) (joined runs) x h.in_time time);
  values = subst (All (λ (y : Kept). FitsSigned w64 y.value)) (entered_tuples runs from to x le o) (All_put (λ (y : Kept). FitsSigned w64 y.value) (joined runs) x h.values value);
  counted = omega (arith, ap length (entered_tuples runs from to x le o), put_length (joined runs) x, room);
}

-- the first times rise from slice to slice
lows_cons : (s : Slice) (ss : List Slice) → All (λ t. s.low ≤ t.low) ss → IsNonDecreasingBy (λ (t : Slice). t.low) ss → IsNonDecreasingBy (λ (t : Slice). t.low) (s ∷ ss)
lows_cons s ss a h zero zero d le l = omega arith
lows_cons s ss a h zero (suc j) d le l = a j d (omega arith)
lows_cons s ss a h (suc i) zero d le l = absurd (omega arith)
lows_cons s ss a h (suc i) (suc j) d le l = h i j d (omega arith) (omega arith)

lows_above : (q : List Kept) (behind : List (List Kept)) → IsPartFrom IsApart q behind → AreInOrder behind → All (λ s. last_time q < s.low) (map slice_of behind)
lows_above q [] p a = All-nil (λ (s : Slice). last_time q < s.low)
lows_above q (run ∷ behind) p a =
    let g : last_time q < first_time run = p in
    let f : first_time run ≤ last_time run = first_below_last run a.0 in
    All-cons (λ (s : Slice). last_time q < s.low) (slice_of run) (map slice_of behind) g
    (All-weaker (λ (s : Slice). last_time run < s.low) (λ s. last_time q < s.low) (λ s l. omega arith) (map slice_of behind) (lows_above run behind a.1 a.2))

pub lows_rise : (runs : List (List Kept)) → AreInOrder runs → IsNonDecreasingBy (λ (s : Slice). s.low) (map slice_of runs)
lows_rise [] a = λ i j d le l. absurd (omega arith)
lows_rise (run ∷ runs) a =
    let f : first_time run ≤ last_time run = first_below_last run a.0 in
    lows_cons (slice_of run) (map slice_of runs) (All-weaker (λ (s : Slice). last_time run < s.low) (λ s. first_time run ≤ s.low) (λ s l. omega arith) (map slice_of runs) (lows_above run runs a.1 a.2)) (lows_rise runs a.2)

-- a slice as it is read
pub shown_at : (runs : List (List Kept)) (slices : List Slice) (at : ℕ) (s : Slice) → slices ≡ map slice_of runs → at < length runs → s ≡ get_or slices at s → s ≡ slice_of (get_or runs at [])
shown_at runs slices at s e h g = g ∙ ap (λ l. get_or l at s) e ∙ get_or-map slice_of runs at [] s h
