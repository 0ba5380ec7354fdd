-- What is shown of values with one put among them.
use Rattle.std.proofs.Common.{◌≡◌, ◌∙◌, ℕ, ℤ, ◌+◌, ◌<◌, ◌≤◌, ◌%◌, ◌^◌, true, cond, Option, None, Some, List, [], ◌∷◌, length, ap, sym, refl, arith, inl, inr, Fits}
use Rattle.std.specs.Prelude as whole
use Rattle.std.specs.Prelude.{◌⊎◌, nat_lt}
use Rattle.std.specs.List.{fold}
use Rattle.std.specs.Int.{cast_signed, cast_unsigned, int_max, int_min, int_wrapping_add, w128}
use Rattle.std.proofs.lemmas.Bool.{cases_lt, false≢true, le-ltb, lt-ltb}
use Rattle.std.proofs.lemmas.Int.{ints}
use Rattle.std.proofs.lemmas.List.{length-map}
use Rattle.std.proofs.Math.Facts.{of_z-to_z}
use Rattle.stream_base.specs.declared.change.Change.TheVariants.{Again, New}
use Rattle.stream_base.specs.declared.former.Former.{Former}
use Rattle.stream_base.specs.declared.func.Func.{Func}
use Rattle.stream_base.specs.declared.func.Func.TheVariants.{Count, First, Last, Max, Mean, Min, Rises, Sum, Trace}
use Rattle.stream_base.specs.declared.kept.Kept.{Kept}
use Rattle.stream_base.specs.declared.shown.Shown.TheVariants.{Ratio, Whole}
use Rattle.stream_base.specs.Model.Changes.{former_of, row_of}
use Rattle.stream_base.specs.Model.Functions.{averaging, count_sum, either_or, fold_of, shown_of, show_value}
use Rattle.stream_base.specs.Model.Journal.{put_in_order}
use Rattle.stream_base.specs.Model.Windows.{Instance}
use Rattle.slice_lists.proofs.RunFacts.{put_first, put_behind}
use Rattle.slice_lists.specs.Slices.{values_of}
use Rattle.time_lanes.specs.Joined.{greatest_with, is_order_free, joined_change, least_with, shown_with}
use Rattle.time_lanes.specs.Told.{again_or_new, former_if}
use Rattle.time_lanes.proofs.Counts.{counted, counts_up}

-- ---- a fold whose steps may be swapped
module _ {A : Type 0} (step : A → ℤ → A) (swap : (a : A) (v w : ℤ) → step (step a v) w ≡ step (step a w) v) where
  last_first : (a : A) (v : ℤ) (values : List ℤ) → fold step (step a v) values ≡ step (fold step a values) v
  last_first a v [] = refl
  last_first a v (w ∷ values) = ap (λ b. fold step b values) (swap a v w) ∙ last_first (step a w) v values

  pub put_among : (a : A) (ks : List Kept) (x : Kept) → fold step a (values_of (put_in_order ks x)) ≡ step (fold step a (values_of ks)) x.value
  put_among a [] x = refl
  put_among a (y ∷ ys) x = by (put_among (step a y.value) ys x) (cases_lt x.time y.time)
    where
      by : fold step (step a y.value) (values_of (put_in_order ys x)) ≡ step (fold step (step a y.value) (values_of ys)) x.value → (x.time < y.time) ⊎ (y.time ≤ x.time) → fold step a (values_of (put_in_order (y ∷ ys) x)) ≡ step (fold step a (values_of (y ∷ ys))) x.value
      by rest (inl l) = ap (λ ks. fold step a (values_of ks)) (put_first y ys x (lt-ltb x.time y.time l)) ∙ last_first a x.value (values_of (y ∷ ys))
      by rest (inr l) = ap (λ ks. fold step a (values_of ks)) (put_behind y ys x (le-ltb x.time y.time l)) ∙ rest

-- ---- the steps of the functions that are free of order
shuffled : (a b c : ℕ) → ((a + b) % 2 ^ 128 + c) % 2 ^ 128 ≡ ((a + c) % 2 ^ 128 + b) % 2 ^ 128
shuffled a b c = omega arith

unwrapped : (n : ℕ) → cast_unsigned w128 (cast_signed w128 (n % 2 ^ 128)) ≡ n % 2 ^ 128
unwrapped n = let h : Fits w128 (n % 2 ^ 128) = omega arith in of_z-to_z {w = w128} h

sum_swap : (a v w : ℤ) → int_wrapping_add w128 (int_wrapping_add w128 a v) w ≡ int_wrapping_add w128 (int_wrapping_add w128 a w) v
sum_swap a v w =
    let i : ℕ = cast_unsigned w128 a in
    let j : ℕ = cast_unsigned w128 v in
    let k : ℕ = cast_unsigned w128 w in
    ap (λ n. cast_signed w128 ((n + k) % 2 ^ 128)) (unwrapped (i + j))
    ∙ ap (cast_signed w128) (shuffled i j k)
    ∙ sym (ap (λ n. cast_signed w128 ((n + j) % 2 ^ 128)) (unwrapped (i + k)))

least_of_two : (v w : ℤ) → int_min v w ≡ int_min w v
least_of_two v w = grind (arith, ints)

least_of_three : (a v w : ℤ) → int_min (int_min a v) w ≡ int_min (int_min a w) v
least_of_three a v w = grind (arith, ints)

least_swap : (o : Option ℤ) (v w : ℤ) → either_or int_min (either_or int_min o (Some v)) (Some w) ≡ either_or int_min (either_or int_min o (Some w)) (Some v)
least_swap None v w = ap Some (least_of_two v w)
least_swap (Some a) v w = ap Some (least_of_three a v w)

greatest_of_two : (v w : ℤ) → int_max v w ≡ int_max w v
greatest_of_two v w = grind (arith, ints)

greatest_of_three : (a v w : ℤ) → int_max (int_max a v) w ≡ int_max (int_max a w) v
greatest_of_three a v w = grind (arith, ints)

greatest_swap : (o : Option ℤ) (v w : ℤ) → either_or int_max (either_or int_max o (Some v)) (Some w) ≡ either_or int_max (either_or int_max o (Some w)) (Some v)
greatest_swap None v w = ap Some (greatest_of_two v w)
greatest_swap (Some a) v w = ap Some (greatest_of_three a v w)

mean_swap : (m : ℤ × ℕ) (v w : ℤ) → ◌≡◌ {A = ℤ × ℕ} (int_wrapping_add w128 (int_wrapping_add w128 m.0 v) w, count_sum (count_sum m.1 1) 1) (int_wrapping_add w128 (int_wrapping_add w128 m.0 w) v, count_sum (count_sum m.1 1) 1)
mean_swap m v w = ap (λ z. (z, count_sum (count_sum m.1 1) 1)) (sum_swap m.0 v w)

-- ---- what is shown
-- of some values there is a pick
picked : (join : ℤ → ℤ → ℤ) (a : ℤ) (values : List ℤ) → (b : ℤ) × (fold (λ (o : Option ℤ) v. either_or join o (Some v)) (Some a) values ≡ Some b)
picked join a [] = (a, refl)
picked join a (v ∷ values) = picked join (join a v) values

number_of : (ks : List Kept) → length (values_of ks) ≡ length ks
number_of ks = length-map ks (λ (x : Kept). x.value)

-- with one value put among some, whatever its place
pub shown_with_one_more : (func : Func) → is_order_free func ≡ true → (y : Kept) (ys : List Kept) (x : Kept) → length (y ∷ ys) + 1 < 2 ^ 64 → shown_of func (values_of (put_in_order (y ∷ ys) x)) ≡ shown_with func (length (y ∷ ys) + 1) x.value (shown_of func (values_of (y ∷ ys)))
shown_with_one_more Count f y ys x few =
    ap (λ n. Whole (whole.pos n))
    (put_among (λ n v. count_sum n 1) (λ n v w. refl) 0 (y ∷ ys) x
    ∙ ap (λ n. count_sum n 1) (counts_up 0 (values_of (y ∷ ys)) (omega (arith, number_of ys)))
    ∙ omega (arith, number_of ys))
shown_with_one_more Sum f y ys x few = ap Whole (put_among (int_wrapping_add w128) sum_swap (whole.pos 0) (y ∷ ys) x)
shown_with_one_more Min f y ys x few =
    let p = picked int_min y.value (values_of ys) in
    ap show_value (put_among (λ (o : Option ℤ) v. either_or int_min o (Some v)) least_swap None (y ∷ ys) x ∙ ap (λ o. either_or int_min o (Some x.value)) p.1)
    ∙ sym (ap (λ o. least_with x.value (show_value o)) p.1)
shown_with_one_more Max f y ys x few =
    let p = picked int_max y.value (values_of ys) in
    ap show_value (put_among (λ (o : Option ℤ) v. either_or int_max o (Some v)) greatest_swap None (y ∷ ys) x ∙ ap (λ o. either_or int_max o (Some x.value)) p.1)
    ∙ sym (ap (λ o. greatest_with x.value (show_value o)) p.1)
shown_with_one_more Mean f y ys x few =
    let m = fold_of averaging (values_of (y ∷ ys)) in
    let n : m.1 ≡ length (values_of (y ∷ ys)) = counted (values_of (y ∷ ys)) (omega (arith, number_of ys)) in
    let more : count_sum m.1 1 ≡ length (y ∷ ys) + 1 = omega (arith, n, number_of ys) in
    ap averaging.show (put_among (λ (m : ℤ × ℕ) v. (int_wrapping_add w128 m.0 v, count_sum m.1 1)) mean_swap (whole.pos 0, 0) (y ∷ ys) x)
    ∙ ap (Ratio (int_wrapping_add w128 m.0 x.value)) more
shown_with_one_more First f y ys x few = absurd (false≢true f)
shown_with_one_more Last f y ys x few = absurd (false≢true f)
shown_with_one_more Rises f y ys x few = absurd (false≢true f)
shown_with_one_more Trace f y ys x few = absurd (false≢true f)

put_length : (ks : List Kept) (x : Kept) → length (put_in_order ks x) ≡ length ks + 1
put_length [] x = refl
put_length (y ∷ ys) x = by (cases_lt x.time y.time) (put_length ys x)
  where
    by : (x.time < y.time) ⊎ (y.time ≤ x.time) → length (put_in_order ys x) ≡ length ys + 1 → length (put_in_order (y ∷ ys) x) ≡ length (y ∷ ys) + 1
    by (inl l) h = ap length (put_first y ys x (lt-ltb x.time y.time l)) ∙ omega arith
    by (inr l) h = ap length (put_behind y ys x (le-ltb x.time y.time l)) ∙ omega (arith, h)

-- ---- so an interval is told with what stood of it and one value more
abbrev over : ℕ → ℕ → List Kept → Instance
over low high chosen = record { low = low; high = high; bound = high; chosen = chosen }

pub joined_is_told : (window : ℕ) (key : List ℕ) (func : Func) (low high : ℕ) (ks after : List Kept) (x : Kept) → is_order_free func ≡ true → after ≡ put_in_order ks x → length after < 2 ^ 64
    → joined_change window key func low high x.value (former_if func (over low high ks)) ≡ again_or_new (former_if func (over low high ks)) (row_of window key func (over low high after))
joined_is_told window key func low high [] after x free e few = ap (λ l. New (row_of window key func (over low high l))) (sym e)
joined_is_told window key func low high (y ∷ ys) after x free e few =
    let number : (length (y ∷ ys) + 1) % 2 ^ 64 ≡ length after = omega (arith, few, put_length (y ∷ ys) x, ap length e) in
    let one : length (y ∷ ys) + 1 ≡ length after = omega (arith, put_length (y ∷ ys) x, ap length e) in
    let shown =
    ap (λ n. shown_with func n x.value (shown_of func (values_of (y ∷ ys)))) (number ∙ sym one)
    ∙ sym (shown_with_one_more func free y ys x (omega (arith, one, few)))
    ∙ ap (λ l. shown_of func (values_of l)) (sym e) in
    let some : nat_lt 0 (length (y ∷ ys)) ≡ true = lt-ltb 0 (length (y ∷ ys)) (omega arith) in
    let former : Former = former_of func (over low high (y ∷ ys)) in
    let told : joined_change window key func low high x.value (Some former) ≡ Again (row_of window key func (over low high after)) former =
    (λ i. Again (record { window = window; key = key; low = low; high = high; number = number i; shown = shown i }) former) in
    ap (λ b. joined_change window key func low high x.value (cond b (Some former) None)) some
    ∙ told
    ∙ sym (ap (λ b. again_or_new (cond b (Some former) None) (row_of window key func (over low high after))) some)
