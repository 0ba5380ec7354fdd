-- The bounds of the engine on slices, by the changes under an entry.
use Rattle.std.proofs.Common.{◌≡◌, ◌∙◌, ◌≤◌, ◌+◌, ◌*◌, ◌^◌, ◌++◌, ◌⊎◌, ℕ, List, [], ◌∷◌, length, map, ap, arith, refl, subst, sym, ⊎_elim}
use Rattle.std.specs.Prelude.{All, sum_by}
use Rattle.std.specs.Cmp.Lexicographic.{slice_cmp}
use Rattle.std.specs.List.Sorted.{IsStrictlySortedBy}
use Rattle.std.specs.Ordering.{nat_cmp}
use Rattle.std.proofs.lemmas.Bool.{cases_lt}
use Rattle.std.proofs.lemmas.List.Elements.{All-cons, All-head, All-nil, All-tail}
use Rattle.std.proofs.lemmas.List.Sums.{sum_by-cons}
use Rattle.stream_base.specs.Limits.{AreWithinLimits, Definitions}
use Rattle.stream_base.specs.declared.entry.Entry.{Entry}
use Rattle.stream_base.specs.Model.Changes.{Moment, changes_after, changes_between, moment_of}
use Rattle.stream_base.specs.Model.What.{key_in}
use Rattle.model_laws.proofs.ChangesAfter.{changes_of_keyed}
use Rattle.partials.specs.Apart.{IsReachOver}
use Rattle.key_slicer.specs.Work.{bounds_mark, bounds_move, bounds_put, slices_gone}
use Rattle.shard_core.specs.Costs.{IsDueOver, IsMarkWithinFolds, IsProgressWithinFolds, IsTupleWithinFolds, slices_in, steps_of_counts, steps_of_move, tuples_across, tuples_near}
use Rattle.shard_core.specs.Shard.{Sharded, sharded_with}
use Rattle.shard_core.specs.Work.{IsDueBy, IsMarkWithin, IsProgressWithin, IsTupleWithin}

-- how high a tree with fingers is over so many partials
abbrev pub is_height : ℕ → ℕ → Type 0
is_height height count = 2 ^ height ≤ count + 1

-- so high is also the greater of its height and of what a row goes by
height_over : (slices reach : ℕ) → IsReachOver is_height slices reach → 2 ^ reach ≤ slices + 1
height_over slices reach r =
    ⊎_elim
    (λ lt. let is : reach ≡ r.of_row = omega (arith, r.is) in rw is r.row)
    (λ ge. let is : reach ≡ r.of_tree = omega (arith, r.is) in rw is (omega (arith, r.tree, r.few)))
    (cases_lt r.of_tree r.of_row)

-- a key has one of two engines, whose bounds are the same
abbrev of_puts : Definitions → List ℕ → Moment → Moment → ℕ → ℕ → Type 0
of_puts d key old new time most = bounds_put is_height d key old new time most ⊎ bounds_put is_height d key old new time most

abbrev of_marks : Definitions → List ℕ → Moment → Moment → ℕ → ℕ → Type 0
of_marks d key old new time most = bounds_mark is_height d key old new time most ⊎ bounds_mark is_height d key old new time most

abbrev of_moves : Definitions → List ℕ → Moment → Moment → ℕ → Type 0
of_moves d key old new most = bounds_move is_height d key old new most ⊎ bounds_move is_height d key old new most

either : {X : Type 0} → X ⊎ X → X
either h = ⊎_elim (λ x. x) (λ x. x) h

module _ (s : Sharded) (e : Entry) (old new : ℕ) (limits : AreWithinLimits s.defs) where
  pub tuple_within_folds : IsTupleWithin of_puts s e old new → IsTupleWithinFolds s e old new
  tuple_within_folds h key time value is on_time =
      let w = h key time value is on_time in
      let b = either w.is_bound in
      let changes : length (changes_after s.defs s.sources s.journal e) ≡ length (changes_between s.defs.windows key (moment_of s.defs s.sources key s.journal) (moment_of s.defs s.sources key (s.journal ++ e ∷ []))) =
      ap length (changes_of_keyed s.defs s.sources s.journal e key limits (ap key_in is) on_time) in (
        b.0,
        height_over (length (slices_in s key)) b.0 b.1,
        subst (λ n. new ≤ old + n) (b.2 ∙ ap (λ k. 64 * (b.0 + 3) * (4 + 2 * k) + tuples_near s key time + steps_of_counts s e key) (sym changes)) w.within,
      )

  pub mark_within_folds : IsMarkWithin of_marks s e old new → IsMarkWithinFolds s e old new
  mark_within_folds h key time is on_time =
      let w = h key time is on_time in
      let b = either w.is_bound in
      let changes : length (changes_after s.defs s.sources s.journal e) ≡ length (changes_between s.defs.windows key (moment_of s.defs s.sources key s.journal) (moment_of s.defs s.sources key (s.journal ++ e ∷ []))) =
      ap length (changes_of_keyed s.defs s.sources s.journal e key limits (ap key_in is) on_time) in
      let gone = slices_gone time (slices_in s key) (slices_in (sharded_with s e) key) in (
        b.0,
        height_over (length (slices_in s key)) b.0 b.1,
        subst (λ n. new ≤ old + n) (b.2 ∙ ap (λ k. 64 * (b.0 + 3) * (4 + 2 * k) + tuples_across s key time + steps_of_counts s e key + 64 * (b.0 + 3) * gone) (sym changes)) w.within,
      )

  -- ---- a move of the watermark
  -- each key with a height in place of its bound
  abbrev with_heights : (due : List (List ℕ × ℕ)) → All (λ k. IsDueBy of_moves s e k.0 k.1) due → List (List ℕ × ℕ)
  with_heights [] a = []
  with_heights (k ∷ ks) a = (k.0, (either (All-head (λ k. IsDueBy of_moves s e k.0 k.1) k ks a).is_bound).0) ∷ with_heights ks (All-tail (λ k. IsDueBy of_moves s e k.0 k.1) k ks a)

  same_keys : (due : List (List ℕ × ℕ)) (a : All (λ k. IsDueBy of_moves s e k.0 k.1) due) → map (λ (k : List ℕ × ℕ). k.0) (with_heights due a) ≡ map (λ (k : List ℕ × ℕ). k.0) due
  same_keys [] a = refl
  same_keys (k ∷ ks) a = ap (λ l. k.0 ∷ l) (same_keys ks (All-tail (λ k. IsDueBy of_moves s e k.0 k.1) k ks a))

  all_over : (due : List (List ℕ × ℕ)) (a : All (λ k. IsDueBy of_moves s e k.0 k.1) due) → All (λ k. IsDueOver s e k.0 k.1) (with_heights due a)
  all_over [] a = All-nil (λ (k : List ℕ × ℕ). IsDueOver s e k.0 k.1)
  all_over (k ∷ ks) a =
      let one = All-head (λ k. IsDueBy of_moves s e k.0 k.1) k ks a in
      All-cons (λ (k : List ℕ × ℕ). IsDueOver s e k.0 k.1) (k.0, (either one.is_bound).0) (with_heights ks (All-tail (λ k. IsDueBy of_moves s e k.0 k.1) k ks a))
      (record { is_due = one.is_due; is_height = height_over (length (slices_in s k.0)) (either one.is_bound).0 (either one.is_bound).1 })
      (all_over ks (All-tail (λ k. IsDueBy of_moves s e k.0 k.1) k ks a))

  same_sum : (due : List (List ℕ × ℕ)) (a : All (λ k. IsDueBy of_moves s e k.0 k.1) due) → sum_by (λ (k : List ℕ × ℕ). steps_of_move s e k.0 k.1) (with_heights due a) ≡ sum_by (λ (k : List ℕ × ℕ). k.1) due
  same_sum [] a = refl
  same_sum (k ∷ ks) a =
      let one = All-head (λ k. IsDueBy of_moves s e k.0 k.1) k ks a in
      let rest = All-tail (λ k. IsDueBy of_moves s e k.0 k.1) k ks a in
      sum_by-cons (λ (k : List ℕ × ℕ). steps_of_move s e k.0 k.1) (k.0, (either one.is_bound).0) (with_heights ks rest)
      ∙ (λ i. sym (either one.is_bound).2 i + same_sum ks rest i)
      ∙ sym (sum_by-cons (λ (k : List ℕ × ℕ). k.1) k ks)

  pub progress_within_folds : IsProgressWithin of_moves s e old new → IsProgressWithinFolds s e old new
  progress_within_folds h progress =
      let m = h progress in
      record {
        due = with_heights m.due m.each_due;
        each_once = subst (IsStrictlySortedBy (slice_cmp nat_cmp)) (sym (same_keys m.due m.each_due)) m.each_once;
        each_due = all_over m.due m.each_due;
        within = omega (arith, m.within, same_sum m.due m.each_due);
      }
