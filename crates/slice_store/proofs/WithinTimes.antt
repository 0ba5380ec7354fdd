-- How many slices begin in an interval, by the places of its ends.
use Rattle.std.proofs.Common.{◌≡◌, ◌∙◌, ℕ, ◌-◌, ◌<◌, ◌≤◌, Bool, true, false, List, [], length, get_or, drop, ap, arith, inl, inr}
use Rattle.std.specs.Prelude.{◌&&◌, nat_le, nat_lt}
use Rattle.std.specs.List.{All}
use Rattle.std.proofs.lemmas.Bool.{and_from, and_left, and_right, cases_lt, le-leb, lt-ltb, lt-leb, le-ltb}
use Rattle.std.proofs.lemmas.List.{length-drop, length-take}
use Rattle.stream_base.specs.declared.kept.Kept.{Kept}
use Rattle.stream_base.specs.Model.Windows.{first_time}
use Rattle.stream_base.proofs.Filters.{filter_none}
use Rattle.stream_base.specs.Places.{IsPlaceOf}
use Rattle.slice_lists.specs.Runs.{runs_within}
use Rattle.slice_lists.proofs.NearFacts.{stretch}

abbrev begins_in : ℕ → ℕ → List Kept → Bool
begins_in low high run = nat_le low (first_time run) && nat_lt (first_time run) high

before_it : (low high t : ℕ) → t < low → (nat_le low t && nat_lt t high) ≡ false
before_it low high t l = and_left (nat_le low t) (nat_lt t high) (lt-leb low t l)

behind_it : (low high t : ℕ) → high ≤ t → (nat_le low t && nat_lt t high) ≡ false
behind_it low high t h = and_right (nat_le low t) (nat_lt t high) (le-ltb t high h)

in_it : (low high t : ℕ) → low ≤ t → t < high → (nat_le low t && nat_lt t high) ≡ true
in_it low high t l h = and_from (nat_le low t) (nat_lt t high) (le-leb low t l) (lt-ltb t high h)

module _ (runs : List (List Kept)) (low high begun ended : ℕ) (b : IsPlaceOf first_time runs low begun) (e : IsPlaceOf first_time runs high ended) where
  in_order : begun ≤ ended → length (runs_within low high runs) ≡ ended - begun
  in_order l =
      ap length (stretch (begins_in low high) runs begun ended [] l e.within
      (λ k m. before_it low high (first_time (get_or runs k [])) (b.before k [] (omega arith) m))
      (λ k m n. in_it low high (first_time (get_or runs k [])) (b.behind k [] m (omega (arith, e.within))) (e.before k [] (omega arith) n))
      (λ k m n. behind_it low high (first_time (get_or runs k [])) (e.behind k [] m n)))
      ∙ omega (arith, length-take (ended - begun) (drop begun runs), length-drop begun runs, e.within)

  turned : ended < begun → runs_within low high runs ≡ []
  turned l = filter_none (begins_in low high) runs none
    where
      none : All (λ run. begins_in low high run ≡ false) runs
      none k d m =
          elim (cases_lt k begun) [
            | inl n ↦ before_it low high (first_time (get_or runs k d)) (b.before k d (omega arith) n)
            | inr n ↦ behind_it low high (first_time (get_or runs k d)) (e.behind k d (omega arith) m)
          ]

  pub number_within : length (runs_within low high runs) ≡ ended - begun
  number_within =
      elim (cases_lt ended begun) [
        | inl l ↦ omega (arith, ap length (turned l))
        | inr l ↦ in_order l
      ]
