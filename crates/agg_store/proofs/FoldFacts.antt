-- Folds of the slices that begin in an interval.
use Rattle.std.proofs.Common.{◌≡◌, ◌∙◌, ℕ, ℤ, List, [], ◌∷◌, length, map, ap, sym}
use Rattle.std.specs.Prelude.{◌&&◌, nat_le, nat_lt, FitsSigned}
use Rattle.std.specs.Int.{w64}
use Rattle.std.specs.List.{All}
use Rattle.std.proofs.lemmas.List.{length-map, map-append}
use Rattle.std.proofs.lemmas.List.Elements.{All-cons, All-filter, All-head, All-nil, All-tail}
use Rattle.stream_base.specs.declared.kept.Kept.{Kept}
use Rattle.stream_base.specs.Model.Windows.{first_time, within}
use Rattle.stream_base.proofs.Members.{filter_map_of}
use Rattle.aggregates.specs.Partial.{IsPartial}
use Rattle.agg_laws.specs.Laws.{total}
use Rattle.agg_laws.specs.Pairs as pairs
use Rattle.aggregates.proofs.Partials.{of_values-append, of_values-none, partial_is_value}
use Rattle.agg_laws.proofs.Totals.{total-cons}
use Rattle.slice_lists.specs.Runs.{IsAligned, runs_within}
use Rattle.slice_lists.proofs.Order.{All-map_of, All-split}
use Rattle.slice_lists.specs.Slices.{AreSlices, joined, values_of}
use Rattle.agg_store.specs.Stored.{partial_of}
use Rattle.slice_lists.proofs.WithinFacts.{within_aligned, all_joined}

-- ---- the partials of the slices in it
pub partials_within : {M : Type 0} (of_values : List ℤ → M) (low high : ℕ) (runs : List (List Kept)) → pairs.within low high (map (partial_of of_values) runs) ≡ map (partial_of of_values) (runs_within low high runs)
partials_within {M} of_values low high runs = filter_map_of (λ (p : ℕ × M). nat_le low p.0 && nat_lt p.0 high) (partial_of of_values) runs

per_run : (P : Kept → Type 0) (runs : List (List Kept)) → All P (joined runs) → All (All P) runs
per_run P [] a = All-nil (All P)
per_run P (run ∷ runs) a = let s = All-split P run (joined runs) a in All-cons (All P) run runs s.0 (per_run P runs s.1)

abbrev Fit : List Kept → Type 0
Fit run = All (λ (x : Kept). FitsSigned w64 x.value) run

fit_values : (run : List Kept) → Fit run → All (FitsSigned w64) (values_of run)
fit_values run h = All-map_of (FitsSigned w64) (λ (x : Kept). x.value) run h

module _ {M : Type 0} {IsValue : M → Type 0} {empty : M} {op : M → M → M} {of_number : ℤ → M} {of_values : List ℤ → M} (p : IsPartial IsValue empty op of_number of_values) where
  -- what they come to is the partial of all their tuples
  total_partials : (runs : List (List Kept)) → All Fit runs → total empty op (pairs.values_of (map (partial_of of_values) runs)) ≡ of_values (values_of (joined runs))
  total_partials [] a = sym (of_values-none p)
  total_partials (run ∷ runs) a =
      let own : Fit run = All-head Fit run runs a in
      let rest : All Fit runs = All-tail Fit run runs a in
      total-cons p.laws (of_values (values_of run)) (pairs.values_of (map (partial_of of_values) runs)) (partial_is_value p (values_of run) (fit_values run own)) (are_values runs rest)
      ∙ ap (op (of_values (values_of run))) (total_partials runs rest)
      ∙ of_values-append p (values_of run) (values_of (joined runs)) (fit_values run own) (fit_values (joined runs) (all_joined (λ (x : Kept). FitsSigned w64 x.value) runs rest))
      ∙ ap of_values (sym (map-append (λ (x : Kept). x.value) run (joined runs)))
    where
      are_values : (runs : List (List Kept)) → All Fit runs → All IsValue (pairs.values_of (map (partial_of of_values) runs))
      are_values [] a = All-nil IsValue
      are_values (run ∷ runs) a = All-cons IsValue (of_values (values_of run)) (pairs.values_of (map (partial_of of_values) runs)) (partial_is_value p (values_of run) (fit_values run (All-head Fit run runs a))) (are_values runs (All-tail Fit run runs a))

  pub fold_is : (low high : ℕ) (runs : List (List Kept)) (ps : List (ℕ × M)) → AreSlices runs → ps ≡ map (partial_of of_values) runs → IsAligned runs low → IsAligned runs high → total empty op (pairs.values_of (pairs.within low high ps)) ≡ of_values (values_of (within low high (joined runs)))
  fold_is low high runs ps h e a b =
      ap (λ l. total empty op (pairs.values_of (pairs.within low high l))) e
      ∙ ap (λ l. total empty op (pairs.values_of l)) (partials_within of_values low high runs)
      ∙ total_partials (runs_within low high runs) (All-filter (λ run. nat_le low (first_time run) && nat_lt (first_time run) high) Fit runs (per_run (λ (x : Kept). FitsSigned w64 x.value) runs h.values))
      ∙ ap (λ l. of_values (values_of l)) (sym (within_aligned low high runs h.ordered a b))

pub fold_length : {M : Type 0} (of_values : List ℤ → M) (low high : ℕ) (runs : List (List Kept)) (ps : List (ℕ × M)) → ps ≡ map (partial_of of_values) runs → length (pairs.within low high ps) ≡ length (runs_within low high runs)
fold_length of_values low high runs ps e = ap (λ l. length (pairs.within low high l)) e ∙ ap length (partials_within of_values low high runs) ∙ length-map (runs_within low high runs) (partial_of of_values)
