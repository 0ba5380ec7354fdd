-- Where order makes no difference, a tuple that is put in its place is combined behind the others.
use Rattle.std.proofs.Common.{◌≡◌, ◌∙◌, ℕ, ℤ, ◌≤◌, Bool, true, false, List, [], ◌∷◌, ◌++◌, take, drop, sym, ap, subst, inl, inr}
use Rattle.std.specs.Prelude.{◌⊎◌, FitsSigned, nat_lt}
use Rattle.std.specs.Int.{w64}
use Rattle.std.specs.List.{All, position_or_len}
use Rattle.std.proofs.lemmas.List.{map-append, take-append-drop}
use Rattle.std.proofs.lemmas.List.Elements.{All-cons, All-nil}
use Rattle.stream_base.specs.declared.kept.Kept.{Kept}
use Rattle.stream_base.specs.Model.Journal.{put_in_order}
use Rattle.stream_base.specs.Model.Windows.{last_time}
use Rattle.stream_base.proofs.Filters.{cases_of}
use Rattle.aggregates.specs.Order.{Commutes}
use Rattle.aggregates.specs.Partial.{IsPartial}
use Rattle.aggregates.proofs.Partials.{in_any_place, of_values-append, of_values-one}
use Rattle.slice_lists.specs.Runs.{IsRun}
use Rattle.slice_lists.specs.Slices.{values_of}
use Rattle.slice_lists.proofs.Order.{All-split}
use Rattle.slice_lists.proofs.SliceFacts.{put_at_end}
use Rattle.slice_lists.proofs.SliceOrder.{IsNear}

module _ {M : Type 0} {IsValue : M → Type 0} {empty : M} {op : M → M → M} {of_number : ℤ → M} {of_values : List ℤ → M} (p : IsPartial IsValue empty op of_number of_values) where
  in_its_place : Commutes IsValue op → (tuples : List Kept) (x : Kept) → All (FitsSigned w64) (values_of tuples) → FitsSigned w64 x.value → op (of_values (values_of tuples)) (of_values (x.value ∷ [])) ≡ of_values (values_of (put_in_order tuples x))
  in_its_place swaps tuples x a h = at (position_or_len (λ (y : Kept). nat_lt x.time y.time) tuples)
    where
      at : (n : ℕ) → op (of_values (values_of tuples)) (of_values (x.value ∷ [])) ≡ of_values (values_of (take n tuples ++ x ∷ drop n tuples))
      at n =
          let front = values_of (take n tuples) in
          let back = values_of (drop n tuples) in
          let parts : values_of tuples ≡ values_of (take n tuples) ++ values_of (drop n tuples) = ap values_of (sym (take-append-drop n tuples)) ∙ map-append (λ (y : Kept). y.value) (take n tuples) (drop n tuples) in
          let fits = All-split (FitsSigned w64) front back (subst (All (FitsSigned w64)) parts a) in
          (λ i. op (of_values (parts i)) (of_values-one p x.value h i))
          ∙ sym (in_any_place p swaps front back x.value fits.0 fits.1 h)
          ∙ ap of_values (sym (map-append (λ (y : Kept). y.value) (take n tuples) (x ∷ drop n tuples)))

  behind_all : (run : List Kept) (x : Kept) → IsRun IsNear run → All (FitsSigned w64) (values_of run) → FitsSigned w64 x.value → last_time run ≤ x.time → op (of_values (values_of run)) (of_values (x.value ∷ [])) ≡ of_values (values_of (put_in_order run x))
  behind_all run x r a h late =
      of_values-append p (values_of run) (x.value ∷ []) a (All-cons (FitsSigned w64) x.value [] h (All-nil (FitsSigned w64)))
      ∙ ap of_values (sym (ap values_of (put_at_end run x r late) ∙ map-append (λ (y : Kept). y.value) run (x ∷ [])))

  -- a tuple combined with those of a run once: behind them, or anywhere where order makes no difference
  pub combined_once : (any_order : Bool) → (any_order ≡ true → Commutes IsValue op) → (run : List Kept) (x : Kept) → IsRun IsNear run → All (FitsSigned w64) (values_of run) → FitsSigned w64 x.value → (any_order ≡ false → last_time run ≤ x.time)
      → op (of_values (values_of run)) (of_values (x.value ∷ [])) ≡ of_values (values_of (put_in_order run x))
  combined_once any_order commutes run x r a h behind = by (cases_of any_order)
    where
      by : (any_order ≡ true) ⊎ (any_order ≡ false) → op (of_values (values_of run)) (of_values (x.value ∷ [])) ≡ of_values (values_of (put_in_order run x))
      by (inl any) = in_its_place (commutes any) run x a h
      by (inr fixed) = behind_all run x r a h (behind fixed)
