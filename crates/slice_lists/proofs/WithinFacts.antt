-- The tuples and slices in an interval, and from a time on.
use Rattle.std.proofs.Common.{◌≡◌, ◌∙◌, ℕ, zero, suc, ◌<◌, ◌≤◌, Bool, true, false, cond, Some, None, List, [], ◌∷◌, ◌++◌, length, get_or, ap, sym, refl, arith, inl, inr}
use Rattle.std.specs.Prelude.{◌⊎◌, ◌&&◌, find, nat_le, nat_lt}
use Rattle.std.specs.List.{All, filter}
use Rattle.std.proofs.lemmas.Bool.{le-leb, lt-ltb, lt-leb, le-ltb, and_from, and_left, and_right}
use Rattle.std.proofs.lemmas.List.Elements.{All-append, All-head, All-nil, All-tail, All-weaker, filter-append}
use Rattle.stream_base.specs.declared.kept.Kept.{Kept}
use Rattle.stream_base.specs.Model.Windows.{first_time, is_within, last_time, within}
use Rattle.slice_lists.specs.Runs.{AreInOrder, IsAligned, runs_within}
use Rattle.stream_base.proofs.Filters.{filter_all, filter_none}
use Rattle.stream_base.specs.Places.{IsPlaceOf}
use Rattle.slice_lists.specs.Slices.{joined}
use Rattle.slice_lists.proofs.SliceOrder.{first_below_last, run_above_first, run_below_last}

-- ---- an interval with no slice on both sides of either end
module _ (low high : ℕ) where
  in_it : (t : ℕ) → low ≤ t → t < high → (nat_le low t && nat_lt t high) ≡ true
  in_it t l h = and_from (nat_le low t) (nat_lt t high) (le-leb low t l) (lt-ltb t high h)

  before_it : (t : ℕ) → t < low → (nat_le low t && nat_lt t high) ≡ false
  before_it t l = and_left (nat_le low t) (nat_lt t high) (lt-leb low t l)

  behind_it : (t : ℕ) → high ≤ t → (nat_le low t && nat_lt t high) ≡ false
  behind_it t h = and_right (nat_le low t) (nat_lt t high) (le-ltb t high h)

  pub within_aligned : (runs : List (List Kept)) → AreInOrder runs → IsAligned runs low → IsAligned runs high → within low high (joined runs) ≡ joined (runs_within low high runs)
  within_aligned [] o a b = refl
  within_aligned (run ∷ runs) o a b =
      filter-append (is_within low high) run (joined runs)
      ∙ ap (λ l. filter (is_within low high) run ++ l) (within_aligned runs o.2 (All-tail (λ r. (last_time r < low) ⊎ (low ≤ first_time r)) run runs a) (All-tail (λ r. (last_time r < high) ⊎ (high ≤ first_time r)) run runs b))
      ∙ one (All-head (λ r. (last_time r < low) ⊎ (low ≤ first_time r)) run runs a) (All-head (λ r. (last_time r < high) ⊎ (high ≤ first_time r)) run runs b)
    where
      span : first_time run ≤ last_time run
      span = first_below_last run o.0

      left_out : (nat_le low (first_time run) && nat_lt (first_time run) high) ≡ false → filter (is_within low high) run ≡ [] → filter (is_within low high) run ++ joined (runs_within low high runs) ≡ joined (runs_within low high (run ∷ runs))
      left_out t e = ap (λ l. l ++ joined (runs_within low high runs)) e ∙ ap (λ c. joined (cond c (run ∷ runs_within low high runs) (runs_within low high runs))) (sym t)

      taken : (nat_le low (first_time run) && nat_lt (first_time run) high) ≡ true → filter (is_within low high) run ≡ run → filter (is_within low high) run ++ joined (runs_within low high runs) ≡ joined (runs_within low high (run ∷ runs))
      taken t e = ap (λ l. l ++ joined (runs_within low high runs)) e ∙ ap (λ c. joined (cond c (run ∷ runs_within low high runs) (runs_within low high runs))) (sym t)

      one : (last_time run < low) ⊎ (low ≤ first_time run) → (last_time run < high) ⊎ (high ≤ first_time run) → filter (is_within low high) run ++ joined (runs_within low high runs) ≡ joined (runs_within low high (run ∷ runs))
      one (inl l) h = left_out (before_it (first_time run) (omega (arith, span))) (filter_none (is_within low high) run (All-weaker (λ (y : Kept). y.time ≤ last_time run) (λ y. is_within low high y ≡ false) (λ y m. before_it y.time (omega arith)) run (run_below_last run o.0)))
      one (inr l) (inr h) = left_out (behind_it (first_time run) h) (filter_none (is_within low high) run (All-weaker (λ (y : Kept). first_time run ≤ y.time) (λ y. is_within low high y ≡ false) (λ y m. behind_it y.time (omega arith)) run (run_above_first run o.0)))
      one (inr l) (inl h) = taken (in_it (first_time run) l (omega (arith, span))) (filter_all (is_within low high) run all)
        where
          all : All (λ (y : Kept). is_within low high y ≡ true) run
          all k d m =
              let below : (get_or run k d).time ≤ last_time run = run_below_last run o.0 k d m in
              let above : first_time run ≤ (get_or run k d).time = run_above_first run o.0 k d m in
              in_it (get_or run k d).time (omega arith) (omega arith)

pub all_joined : (P : Kept → Type 0) (runs : List (List Kept)) → All (All P) runs → All P (joined runs)
all_joined P [] a = All-nil P
all_joined P (run ∷ runs) a = All-append P run (joined runs) (All-head (All P) run runs a) (all_joined P runs (All-tail (All P) run runs a))

-- ---- the first slice from a time on
pub find_at : {X : Type 0} (p : X → Bool) (xs : List X) (at : ℕ) (d : X) → at < length xs → ((k : ℕ) → k < at → p (get_or xs k d) ≡ false) → p (get_or xs at d) ≡ true → find p xs ≡ Some (get_or xs at d)
find_at p [] at d l f t = absurd (omega arith)
find_at p (x ∷ xs) zero d l f t = ap (λ b. cond b (Some x) (find p xs)) t
find_at p (x ∷ xs) (suc at) d l f t =
    ap (λ b. cond b (Some x) (find p xs)) (f zero (omega arith)) ∙ find_at p xs at d (omega arith) (λ k m. f (suc k) (omega arith)) t

pub find_none : {X : Type 0} (p : X → Bool) (xs : List X) → All (λ x. p x ≡ false) xs → find p xs ≡ None
find_none p [] h = refl
find_none p (x ∷ xs) h =
    ap (λ b. cond b (Some x) (find p xs)) (All-head (λ x. p x ≡ false) x xs h) ∙ find_none p xs (All-tail (λ x. p x ≡ false) x xs h)

pub first_from : (slices : List (List Kept)) (time at : ℕ) → IsPlaceOf first_time slices time at → at < length slices → find (λ run. nat_le time (first_time run)) slices ≡ Some (get_or slices at [])
first_from slices time at h l =
    find_at (λ run. nat_le time (first_time run)) slices at [] l
    (λ k m. lt-leb time (first_time (get_or slices k [])) (h.before k [] (omega arith) m))
    (le-leb time (first_time (get_or slices at [])) (h.behind at [] (omega arith) l))

pub none_from : (slices : List (List Kept)) (time at : ℕ) → IsPlaceOf first_time slices time at → length slices ≤ at → find (λ run. nat_le time (first_time run)) slices ≡ None
none_from slices time at h l =
    find_none (λ run. nat_le time (first_time run)) slices (λ k d m. lt-leb time (first_time (get_or slices k d)) (h.before k d (omega arith) (omega arith)))
