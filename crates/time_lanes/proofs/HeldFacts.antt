-- What a lane holds where it takes up slices and lets them go.
use Rattle.std.proofs.Common.{◌≡◌, ◌∙◌, ℕ, ℤ, suc, ◌+◌, ◌<◌, ◌≤◌, max, List, [], ◌∷◌, ◌++◌, length, drop, map, ap, sym, refl, arith, inl, inr, append_assoc}
use Rattle.std.specs.Prelude.{◌⊎◌, min}
use Rattle.std.proofs.lemmas.Bool.{cases_lt}
use Rattle.std.proofs.lemmas.List.{append-nil, drop-drop, length-map, map-append}
use Rattle.std.proofs.Math.Seq.{drop-append_seam}
use Rattle.stream_base.specs.declared.kept.Kept.{Kept}
use Rattle.aggregates.specs.Partial.{IsPartial}
use Rattle.agg_laws.specs.Laws.{total}
use Rattle.agg_laws.specs.Pairs as pairs
use Rattle.slice_lists.specs.Runs.{AreInOrder, IsAligned, runs_within}
use Rattle.stream_base.specs.Model.Windows.{within}
use Rattle.slice_lists.specs.Slices.{AreSlices, joined, values_of}
use Rattle.agg_store.specs.Stored.{partial_of}
use Rattle.agg_store.proofs.FoldFacts.{fold_is, partials_within}
use Rattle.time_lanes.specs.Held.{partials_of}
use Rattle.time_lanes.proofs.Ranges.{in_two, none_turned}

-- ---- partials
pub partials_append : {M : Type 0} (of_values : List ℤ → M) (runs others : List (List Kept)) → partials_of of_values (runs ++ others) ≡ partials_of of_values runs ++ partials_of of_values others
partials_append of_values runs others = map-append (λ run. of_values (values_of run)) runs others

pub partials_length : {M : Type 0} (of_values : List ℤ → M) (runs : List (List Kept)) → length (partials_of of_values runs) ≡ length runs
partials_length of_values runs = length-map runs (λ run. of_values (values_of run))

-- one partial more, of those that are left
pub one_taken : {M : Type 0} (of_values : List ℤ → M) (before so_far after : List M) (partial : M) (run : List Kept) (rest all left : List (List Kept)) → so_far ++ partials_of of_values left ≡ before ++ partials_of of_values all → left ≡ run ∷ rest → partial ≡ of_values (values_of run) → after ≡ so_far ++ partial ∷ [] → after ++ partials_of of_values rest ≡ before ++ partials_of of_values all
one_taken of_values before so_far after partial run rest all left h e p a =
    ap (λ l. l ++ partials_of of_values rest) (a ∙ ap (λ q. so_far ++ q ∷ []) p)
    ∙ append_assoc so_far (of_values (values_of run) ∷ []) (partials_of of_values rest)
    ∙ ap (λ l. so_far ++ partials_of of_values l) (sym e)
    ∙ h

-- ---- what is held from a time on
-- where the slices from that time on that aren't held are taken up, all up to the other time are
pub pulled : {M : Type 0} (of_values : List ℤ → M) (from to upto : ℕ) (slices : List (List Kept)) (partials : List M) → AreInOrder slices → partials ≡ partials_of of_values (runs_within from to slices) → partials ++ partials_of of_values (runs_within (max from to) upto slices) ≡ partials_of of_values (runs_within from (max to upto) slices)
pulled of_values from to upto slices partials o h =
    ap (λ l. l ++ partials_of of_values (runs_within (max from to) upto slices)) h
    ∙ sym (partials_append of_values (runs_within from to slices) (runs_within (max from to) upto slices))
    ∙ ap (partials_of of_values) (by (cases_lt from to) (cases_lt to upto))
  where
    by : (from < to) ⊎ (to ≤ from) → (to < upto) ⊎ (upto ≤ to) → runs_within from to slices ++ runs_within (max from to) upto slices ≡ runs_within from (max to upto) slices
    by (inl l) (inl m) =
        let e : max from to ≡ to = omega arith in
        let f : upto ≡ max to upto = omega arith in
        ap (λ n. runs_within from to slices ++ runs_within n upto slices) e
        ∙ sym (in_two from to upto slices (omega arith) (omega arith) o)
        ∙ ap (λ n. runs_within from n slices) f
    by (inl l) (inr m) =
        let f : to ≡ max to upto = omega arith in
        ap (λ l. runs_within from to slices ++ l) (none_turned (max from to) upto slices (omega arith))
        ∙ append-nil (runs_within from to slices)
        ∙ ap (λ n. runs_within from n slices) f
    by (inr l) (inl m) =
        let e : max from to ≡ from = omega arith in
        let f : upto ≡ max to upto = omega arith in
        ap (λ l. l ++ runs_within (max from to) upto slices) (none_turned from to slices l)
        ∙ ap (λ n. runs_within n upto slices) e
        ∙ ap (λ n. runs_within from n slices) f
    by (inr l) (inr m) =
        let f : to ≡ max to upto = omega arith in
        ap (λ l. runs_within from to slices ++ l) (none_turned (max from to) upto slices (omega arith))
        ∙ append-nil (runs_within from to slices)
        ∙ ap (λ n. runs_within from n slices) f

-- where as many are let go as begin from one time up to another, those from the other on are held
pub shed_from : {M : Type 0} (of_values : List ℤ → M) (from upto to : ℕ) (slices : List (List Kept)) (partials : List M) → AreInOrder slices → from ≤ upto → partials ≡ partials_of of_values (runs_within from to slices) → drop (length (runs_within from (min upto to) slices)) partials ≡ partials_of of_values (runs_within upto to slices)
shed_from of_values from upto to slices partials o le h = by (cases_lt to upto)
  where
    by : (to < upto) ⊎ (upto ≤ to) → drop (length (runs_within from (min upto to) slices)) partials ≡ partials_of of_values (runs_within upto to slices)
    by (inl l) =
        let e : min upto to ≡ to = omega arith in
        ap (λ n. drop (length (runs_within from n slices)) partials) e
        ∙ ap (drop (length (runs_within from to slices))) h
        ∙ ap (λ n. drop n (partials_of of_values (runs_within from to slices))) (sym (partials_length of_values (runs_within from to slices)))
        ∙ ap (drop (length (partials_of of_values (runs_within from to slices)))) (sym (append-nil (partials_of of_values (runs_within from to slices))))
        ∙ drop-append_seam (partials_of of_values (runs_within from to slices)) []
        ∙ ap (partials_of of_values) (sym (none_turned upto to slices (omega arith)))
    by (inr l) =
        let e : min upto to ≡ upto = omega arith in
        ap (λ n. drop (length (runs_within from n slices)) partials) e
        ∙ ap (drop (length (runs_within from upto slices))) (h ∙ ap (partials_of of_values) (in_two from upto to slices le l o) ∙ partials_append of_values (runs_within from upto slices) (runs_within upto to slices))
        ∙ ap (λ n. drop n (partials_of of_values (runs_within from upto slices) ++ partials_of of_values (runs_within upto to slices))) (sym (partials_length of_values (runs_within from upto slices)))
        ∙ drop-append_seam (partials_of of_values (runs_within from upto slices)) (partials_of of_values (runs_within upto to slices))

-- one more is let go
pub one_gone : {M : Type 0} (so_far after before : List M) (n m : ℕ) → drop n so_far ≡ before → n ≡ suc m → after ≡ drop 1 so_far → drop m after ≡ before
one_gone so_far after before n m h e a = ap (drop m) a ∙ drop-drop m 1 so_far ∙ ap (λ j. drop j so_far) (let f : 1 + m ≡ n = omega arith in f) ∙ h

pub drop_none : {M : Type 0} (xs : List M) → drop 0 xs ≡ xs
drop_none [] = refl
drop_none (x ∷ xs) = refl

-- ---- their fold
as_values : {M : Type 0} (of_values : List ℤ → M) (runs : List (List Kept)) → pairs.values_of (map (partial_of of_values) runs) ≡ partials_of of_values runs
as_values of_values [] = refl
as_values of_values (run ∷ runs) = ap (λ l. of_values (values_of run) ∷ l) (as_values of_values runs)

module _ {M : Type 0} {IsValue : M → Type 0} {empty : M} {op : M → M → M} {of_number : ℤ → M} {of_values : List ℤ → M} (p : IsPartial IsValue empty op of_number of_values) where
  pub fold_of_held : (low high : ℕ) (slices : List (List Kept)) → AreSlices slices → IsAligned slices low → IsAligned slices high → total empty op (partials_of of_values (runs_within low high slices)) ≡ of_values (values_of (within low high (joined slices)))
  fold_of_held low high slices o a b =
      ap (total empty op) (sym (ap pairs.values_of (partials_within of_values low high slices) ∙ as_values of_values (runs_within low high slices)))
      ∙ fold_is p low high slices (map (partial_of of_values) slices) o refl a b
