-- The partials of slices: which pairs they are, and what an edit makes of them.
use Rattle.std.proofs.Common.{◌≡◌, ◌∙◌, ℕ, ℤ, suc, ◌+◌, ◌-◌, ◌<◌, ◌≤◌, true, false, Some, List, [], ◌∷◌, ◌++◌, length, get_or, take, drop, map, ap, sym, subst, arith, append_assoc, drop-cons}
use Rattle.std.specs.List.{All}
use Rattle.std.proofs.lemmas.List.{length-drop, length-map, map-append, take-append-drop}
use Rattle.std.proofs.lemmas.List.Elements.{All-cons, All-nil, All-weaker}
use Rattle.std.proofs.Math.Seq.{take-suc}
use Rattle.stream_base.specs.declared.kept.Kept.{Kept}
use Rattle.stream_base.specs.Model.Journal.{put_in_order}
use Rattle.stream_base.specs.Model.Windows.{first_time, last_time}
use Rattle.agg_laws.specs.Pairs.{distance, has_key, inserted, replaced, value_at, without}
use Rattle.aggregates.specs.Partial.{IsPartial}
use Rattle.aggregates.proofs.Partials.{partial_is_value}
use Rattle.agg_laws.proofs.Distances.{distance-middle}
use Rattle.agg_laws.proofs.RisingPairs.{has_key-between, has_key-middle, inserted-parts, replaced-middle, value_at-middle, without-middle}
use Rattle.slice_lists.specs.Runs.{AreInOrder, IsPartFrom, IsRun}
use Rattle.slice_lists.specs.Slices.{AreSlices, entered_at, values_of}
use Rattle.agg_store.specs.Stored.{partial_of}
use Rattle.slice_lists.proofs.SliceOrder.{IsApart, IsNear, behind_at, first_below_last, first_of_both, part_at, reach}
use Rattle.slice_lists.proofs.SliceParts.{in_parts}
use Rattle.slice_lists.proofs.SliceFacts.{values_at, run_of, put_at_front, put_between, first_behind, entered_none, entered_one, entered_two}

module _ {M : Type 0} (of_values : List ℤ → M) where
  -- ---- slices and their keys
  -- the keys of the partials before and behind a slice
  firsts_below : (before : List (List Kept)) (q : List Kept) (behind : List (List Kept)) → AreInOrder (before ++ q ∷ behind) → All (λ p. p.0 < first_time q) (map (partial_of of_values) before)
  firsts_below [] q behind a = All-nil (λ p. p.0 < first_time q)
  firsts_below (run ∷ before) q behind a =
      let f : first_time run ≤ last_time run = first_below_last run a.0 in
      let g : last_time run < first_time q = reach run before q behind a.1 a.2 in
      All-cons (λ p. p.0 < first_time q) (partial_of of_values run) (map (partial_of of_values) before) (omega arith) (firsts_below before q behind a.2)

  pub firsts_above : (q : List Kept) (behind : List (List Kept)) → IsPartFrom IsApart q behind → AreInOrder behind → All (λ p. last_time q < p.0) (map (partial_of of_values) behind)
  firsts_above q [] p a = All-nil (λ p. last_time q < p.0)
  firsts_above q (run ∷ behind) p a =
      let g : last_time q < first_time run = p in
      let f : first_time run ≤ last_time run = first_below_last run a.0 in
      All-cons (λ p. last_time q < p.0) (partial_of of_values run) (map (partial_of of_values) behind) g
      (All-weaker (λ p. last_time run < p.0) (λ p. last_time q < p.0) (λ p l. omega arith) (map (partial_of of_values) behind) (firsts_above run behind a.1 a.2))

  module _ (runs : List (List Kept)) (at : ℕ) (l : at < length runs) (o : AreInOrder runs) where
    order_at : AreInOrder (take at runs ++ get_or runs at [] ∷ drop (suc at) runs)
    order_at = subst AreInOrder (in_parts runs at l) o

    pairs_at : map (partial_of of_values) runs ≡ map (partial_of of_values) (take at runs) ++ partial_of of_values (get_or runs at []) ∷ map (partial_of of_values) (drop (suc at) runs)
    pairs_at = ap (map (partial_of of_values)) (in_parts runs at l) ∙ map-append (partial_of of_values) (take at runs) (get_or runs at [] ∷ drop (suc at) runs)

    lower_at : All (λ p. p.0 < first_time (get_or runs at [])) (map (partial_of of_values) (take at runs))
    lower_at = firsts_below (take at runs) (get_or runs at []) (drop (suc at) runs) order_at

    upper_at : All (λ p. first_time (get_or runs at []) < p.0) (map (partial_of of_values) (drop (suc at) runs))
    upper_at =
        let b = behind_at (take at runs) (get_or runs at []) (drop (suc at) runs) order_at in
        let f : first_time (get_or runs at []) ≤ last_time (get_or runs at []) = first_below_last (get_or runs at []) (part_at (take at runs) (get_or runs at []) (drop (suc at) runs) order_at) in
        All-weaker (λ p. last_time (get_or runs at []) < p.0) (λ p. first_time (get_or runs at []) < p.0) (λ p l. omega arith) (map (partial_of of_values) (drop (suc at) runs)) (firsts_above (get_or runs at []) (drop (suc at) runs) b.0 b.1)

    pub partial_there : has_key (first_time (get_or runs at [])) (map (partial_of of_values) runs) ≡ true
    partial_there =
        ap (has_key (first_time (get_or runs at []))) pairs_at
        ∙ has_key-middle (first_time (get_or runs at [])) (map (partial_of of_values) (take at runs)) (map (partial_of of_values) (drop (suc at) runs)) lower_at upper_at (of_values (values_of (get_or runs at [])))

    pub partial_found : value_at (first_time (get_or runs at [])) (map (partial_of of_values) runs) ≡ Some (of_values (values_of (get_or runs at [])))
    partial_found =
        ap (value_at (first_time (get_or runs at []))) pairs_at
        ∙ value_at-middle (first_time (get_or runs at [])) (map (partial_of of_values) (take at runs)) (map (partial_of of_values) (drop (suc at) runs)) lower_at upper_at (of_values (values_of (get_or runs at [])))

    -- behind it lie those of the slices behind
    pub partial_behind : distance (first_time (get_or runs at [])) (map (partial_of of_values) runs) ≡ length runs - (at + 1)
    partial_behind =
        let pairs = ap (distance (first_time (get_or runs at []))) pairs_at in
        let behind = distance-middle (first_time (get_or runs at [])) (of_values (values_of (get_or runs at []))) (map (partial_of of_values) (take at runs)) (map (partial_of of_values) (drop (suc at) runs)) lower_at upper_at in
        omega (arith, pairs, behind, length-map (drop (suc at) runs) (partial_of of_values), length-drop (suc at) runs)

    pub partial_gone : without (first_time (get_or runs at [])) (map (partial_of of_values) runs) ≡ map (partial_of of_values) (take at runs) ++ map (partial_of of_values) (drop (suc at) runs)
    partial_gone =
        ap (without (first_time (get_or runs at []))) pairs_at
        ∙ without-middle (first_time (get_or runs at [])) (map (partial_of of_values) (take at runs)) (map (partial_of of_values) (drop (suc at) runs)) lower_at upper_at (of_values (values_of (get_or runs at [])))

    pub partial_other : (q : List Kept) (b : M) → first_time q ≡ first_time (get_or runs at []) → b ≡ of_values (values_of q) → replaced (first_time (get_or runs at [])) b (map (partial_of of_values) runs) ≡ map (partial_of of_values) (take at runs ++ q ∷ drop (suc at) runs)
    partial_other q b first is =
        ap (replaced (first_time (get_or runs at [])) b) pairs_at
        ∙ replaced-middle (first_time (get_or runs at [])) (map (partial_of of_values) (take at runs)) (map (partial_of of_values) (drop (suc at) runs)) lower_at upper_at (of_values (values_of (get_or runs at []))) b
        ∙ (λ i. map (partial_of of_values) (take at runs) ++ (sym first i, is i) ∷ map (partial_of of_values) (drop (suc at) runs))
        ∙ sym (map-append (partial_of of_values) (take at runs) (q ∷ drop (suc at) runs))

  -- a partial more
  module _ (before behind : List (List Kept)) (q : List Kept) (o : AreInOrder (before ++ q ∷ behind)) where
    more_below : All (λ p. p.0 < first_time q) (map (partial_of of_values) before)
    more_below = firsts_below before q behind o

    more_above : All (λ p. first_time q < p.0) (map (partial_of of_values) behind)
    more_above =
        let b = behind_at before q behind o in
        let f : first_time q ≤ last_time q = first_below_last q (part_at before q behind o) in
        All-weaker (λ p. last_time q < p.0) (λ p. first_time q < p.0) (λ p l. omega arith) (map (partial_of of_values) behind) (firsts_above q behind b.0 b.1)

    pub more_absent : has_key (first_time q) (map (partial_of of_values) before ++ map (partial_of of_values) behind) ≡ false
    more_absent = has_key-between (first_time q) (map (partial_of of_values) before) (map (partial_of of_values) behind) more_below more_above

    pub more_there : (b : M) → b ≡ of_values (values_of q) → inserted (first_time q) b (map (partial_of of_values) before ++ map (partial_of of_values) behind) ≡ map (partial_of of_values) (before ++ q ∷ behind)
    more_there b is =
        inserted-parts (first_time q) (map (partial_of of_values) before) (map (partial_of of_values) behind) more_below b (All-weaker (λ p. first_time q < p.0) (λ p. first_time q ≤ p.0) (λ p l. omega arith) (map (partial_of of_values) behind) more_above)
        ∙ (λ i. map (partial_of of_values) before ++ (first_time q, is i) ∷ map (partial_of of_values) behind)
        ∙ sym (map-append (partial_of of_values) before (q ∷ behind))

  -- ---- what a tuple makes of the partials
  module _ (runs : List (List Kept)) (at to : ℕ) (x : Kept) (o : AreInOrder runs) (n : AreInOrder (entered_at at to x runs)) where
    -- it is alone
    module _ (e : to ≡ at) where
      alone_is : entered_at at to x runs ≡ take at runs ++ (x ∷ []) ∷ drop at runs
      alone_is = ap (λ t. entered_at at t x runs) e ∙ entered_none at x runs

      alone_order : AreInOrder (take at runs ++ (x ∷ []) ∷ drop at runs)
      alone_order = subst AreInOrder alone_is n

      halves : map (partial_of of_values) runs ≡ map (partial_of of_values) (take at runs) ++ map (partial_of of_values) (drop at runs)
      halves = ap (map (partial_of of_values)) (sym (take-append-drop at runs)) ∙ map-append (partial_of of_values) (take at runs) (drop at runs)

      pub alone_absent : has_key x.time (map (partial_of of_values) runs) ≡ false
      alone_absent = ap (has_key x.time) halves ∙ more_absent (take at runs) (drop at runs) (x ∷ []) alone_order

      pub alone_there : (b : M) → b ≡ of_values (x.value ∷ []) → inserted x.time b (map (partial_of of_values) runs) ≡ map (partial_of of_values) (entered_at at to x runs)
      alone_there b is =
          ap (inserted x.time b) halves
          ∙ more_there (take at runs) (drop at runs) (x ∷ []) alone_order b is
          ∙ ap (map (partial_of of_values)) (sym alone_is)

    -- it enters one slice
    module _ (e : to ≡ at + 1) (l : at < length runs) where
      one_is : entered_at at to x runs ≡ take at runs ++ put_in_order (get_or runs at []) x ∷ drop (suc at) runs
      one_is = entered_one at to x runs e l

      pub refolded_there : first_time (get_or runs at []) ≤ x.time → (b : M) → b ≡ of_values (values_of (put_in_order (get_or runs at []) x)) → replaced (first_time (get_or runs at [])) b (map (partial_of of_values) runs) ≡ map (partial_of of_values) (entered_at at to x runs)
      refolded_there late b is =
          partial_other runs at l o (put_in_order (get_or runs at []) x) b (first_behind (get_or runs at []) x (run_of runs at l o) late) is
          ∙ ap (map (partial_of of_values)) (sym one_is)

      module _ (early : x.time < first_time (get_or runs at [])) where
        front_is : entered_at at to x runs ≡ take at runs ++ (x ∷ get_or runs at []) ∷ drop (suc at) runs
        front_is = one_is ∙ ap (λ q. take at runs ++ q ∷ drop (suc at) runs) (put_at_front (get_or runs at []) x (run_of runs at l o) early)

        front_order : AreInOrder (take at runs ++ (x ∷ get_or runs at []) ∷ drop (suc at) runs)
        front_order = subst AreInOrder front_is n

        pub fronted_absent : has_key x.time (without (first_time (get_or runs at [])) (map (partial_of of_values) runs)) ≡ false
        fronted_absent = ap (has_key x.time) (partial_gone runs at l o) ∙ more_absent (take at runs) (drop (suc at) runs) (x ∷ get_or runs at []) front_order

        pub fronted_there : (b : M) → b ≡ of_values (x.value ∷ values_of (get_or runs at [])) → inserted x.time b (without (first_time (get_or runs at [])) (map (partial_of of_values) runs)) ≡ map (partial_of of_values) (entered_at at to x runs)
        fronted_there b is =
            ap (inserted x.time b) (partial_gone runs at l o)
            ∙ more_there (take at runs) (drop (suc at) runs) (x ∷ get_or runs at []) front_order b is
            ∙ ap (map (partial_of of_values)) (sym front_is)

    -- it joins two slices
    module _ (e : to ≡ at + 2) (l : suc at < length runs) where
      abbrev fewer : List (List Kept)
      fewer = take at runs ++ get_or runs at [] ∷ drop (suc (suc at)) runs

      in_pair : runs ≡ take at runs ++ get_or runs at [] ∷ get_or runs (suc at) [] ∷ drop (suc (suc at)) runs
      in_pair = in_parts runs at (omega arith) ∙ ap (λ l. take at runs ++ get_or runs at [] ∷ l) (drop-cons runs (suc at) [] l)

      order_pair : AreInOrder (take at runs ++ get_or runs at [] ∷ get_or runs (suc at) [] ∷ drop (suc (suc at)) runs)
      order_pair = subst AreInOrder in_pair o

      -- the pairs without that of the second
      next_gone : without (first_time (get_or runs (suc at) [])) (map (partial_of of_values) runs) ≡ map (partial_of of_values) (take at runs) ++ partial_of of_values (get_or runs at []) ∷ map (partial_of of_values) (drop (suc (suc at)) runs)
      next_gone =
          partial_gone runs (suc at) l o
          ∙ ap (λ l. map (partial_of of_values) l ++ map (partial_of of_values) (drop (suc (suc at)) runs)) (take-suc runs at [] (omega arith))
          ∙ ap (λ l. l ++ map (partial_of of_values) (drop (suc (suc at)) runs)) (map-append (partial_of of_values) (take at runs) (get_or runs at [] ∷ []))
          ∙ append_assoc (map (partial_of of_values) (take at runs)) (partial_of of_values (get_or runs at []) ∷ []) (map (partial_of of_values) (drop (suc (suc at)) runs))

      low_pairs : All (λ p. p.0 < first_time (get_or runs at [])) (map (partial_of of_values) (take at runs))
      low_pairs = lower_at runs at (omega arith) o

      high_pairs : All (λ p. first_time (get_or runs at []) < p.0) (map (partial_of of_values) (drop (suc (suc at)) runs))
      high_pairs =
          let f : first_time (get_or runs at []) < first_time (get_or runs (suc at) []) = firsts_rise in
          All-weaker (λ p. first_time (get_or runs (suc at) []) < p.0) (λ p. first_time (get_or runs at []) < p.0) (λ p l. omega arith) (map (partial_of of_values) (drop (suc (suc at)) runs)) (upper_at runs (suc at) l o)
        where
          firsts_rise : first_time (get_or runs at []) < first_time (get_or runs (suc at) [])
          firsts_rise =
              let b = behind_at (take at runs) (get_or runs at []) (get_or runs (suc at) [] ∷ drop (suc (suc at)) runs) order_pair in
              let g : last_time (get_or runs at []) < first_time (get_or runs (suc at) []) = b.0 in
              let f : first_time (get_or runs at []) ≤ last_time (get_or runs at []) = first_below_last (get_or runs at []) (run_of runs at (omega arith) o) in
              omega arith

      pub merged_there : has_key (first_time (get_or runs at [])) (without (first_time (get_or runs (suc at) [])) (map (partial_of of_values) runs)) ≡ true
      merged_there =
          ap (has_key (first_time (get_or runs at []))) next_gone
          ∙ has_key-middle (first_time (get_or runs at [])) (map (partial_of of_values) (take at runs)) (map (partial_of of_values) (drop (suc (suc at)) runs)) low_pairs high_pairs (of_values (values_of (get_or runs at [])))

      pub merged_is : last_time (get_or runs at []) ≤ x.time → x.time < first_time (get_or runs (suc at) []) → (b : M) → b ≡ of_values ((values_of (get_or runs at []) ++ x.value ∷ []) ++ values_of (get_or runs (suc at) []))
          → replaced (first_time (get_or runs at [])) b (without (first_time (get_or runs (suc at) [])) (map (partial_of of_values) runs)) ≡ map (partial_of of_values) (entered_at at to x runs)
      merged_is low high b is =
          let p = get_or runs at [] in
          let q = get_or runs (suc at) [] in
          let r : IsRun IsNear p = run_of runs at (omega arith) o in
          let s : IsRun IsNear q = run_of runs (suc at) l o in
          let put : put_in_order (p ++ q) x ≡ p ++ x ∷ q = put_between p q x r s low high in
          let values : (values_of p ++ x.value ∷ []) ++ values_of q ≡ values_of (p ++ x ∷ q) = append_assoc (values_of p) (x.value ∷ []) (values_of q) ∙ sym (map-append (λ (y : Kept). y.value) p (x ∷ q)) in
          ap (replaced (first_time p) b) next_gone
          ∙ replaced-middle (first_time p) (map (partial_of of_values) (take at runs)) (map (partial_of of_values) (drop (suc (suc at)) runs)) low_pairs high_pairs (of_values (values_of p)) b
          ∙ (λ i. map (partial_of of_values) (take at runs) ++ (sym (first_of_both p (x ∷ q) r) i, (is ∙ ap of_values values) i) ∷ map (partial_of of_values) (drop (suc (suc at)) runs))
          ∙ sym (map-append (partial_of of_values) (take at runs) ((p ++ x ∷ q) ∷ drop (suc (suc at)) runs))
          ∙ ap (λ l. map (partial_of of_values) (take at runs ++ l ∷ drop (suc (suc at)) runs)) (sym put)
          ∙ ap (map (partial_of of_values)) (sym (entered_two at to x runs e l))

-- the partial of a slice is a value
pub slice_is_value : {M : Type 0} {IsValue : M → Type 0} {empty : M} {op : M → M → M} {of_number : ℤ → M} {of_values : List ℤ → M} → IsPartial IsValue empty op of_number of_values → (runs : List (List Kept)) (at : ℕ) → at < length runs → AreSlices runs → IsValue (of_values (values_of (get_or runs at [])))
slice_is_value p runs at l h = partial_is_value p (values_of (get_or runs at [])) (values_at runs at l h)
