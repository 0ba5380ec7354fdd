-- What a journal keeps of a key has times that don't fall and lie before the final one, and distinct positions.
use Rattle.std.proofs.Common.{◌≡◌, ℕ, suc, ◌<◌, ◌≤◌, Bool, true, false, cond, Option, Some, None, List, [], ◌∷◌, ◌++◌, length, ap, sym, refl, subst, arith, inl, inr}
use Rattle.std.specs.Prelude.{◌⊎◌, ◌≢◌, nat_le, nat_lt}
use Rattle.std.specs.List.{All}
use Rattle.std.specs.Option.{option_map_or}
use Rattle.std.specs.Str.{bytes_eq}
use Rattle.std.proofs.lemmas.Bool.{and_parts, leb-true}
use Rattle.std.proofs.lemmas.List.Elements.{All-head, All-nil, All-tail, All-weaker}
use Rattle.std.proofs.lemmas.List.Kept.{AllPairs-cons}
use Rattle.stream_base.specs.declared.entry.Entry.{Entry}
use Rattle.stream_base.specs.declared.kept.Kept.{Kept}
use Rattle.stream_base.specs.declared.limits.TheConstants.{FINAL, TIME_MAX}
use Rattle.stream_base.specs.declared.what.What.{What}
use Rattle.stream_base.specs.declared.what.What.TheVariants.{Tuple, Mark, Water, Idle, End}
use Rattle.stream_base.specs.Laws.{accepted_tuple}
use Rattle.stream_base.specs.Model.Journal.{kept_of, put_in_order}
use Rattle.stream_base.specs.Model.Watermark.{water_of}
use Rattle.stream_base.specs.Model.What.{is_late, is_what_within, tuple_in}
use Rattle.stream_base.proofs.EventOrder.{All_put, from_the_front, kept_positions_below}
use Rattle.stream_base.proofs.Growing.{kept_of_nil, kept_of_push}
use Rattle.window_laws.specs.Positions.{AreKept, HaveDistinctPositions}
use Rattle.slice_lists.proofs.Order.{All-split}
use Rattle.stream_base.proofs.Filters.{cases_of}
use Rattle.slice_lists.proofs.RunFacts.{put_behind, put_first}
use Rattle.window_laws.proofs.SessionFacts.{put_times}

-- distinct positions with one tuple more of another position
pub put_distinct : (kept : List Kept) (x : Kept) → HaveDistinctPositions kept → All (λ (y : Kept). x.position ≢ y.position) kept → HaveDistinctPositions (put_in_order kept x)
put_distinct [] x d a = AllPairs-cons (λ (y z : Kept). y.position ≢ z.position) x [] (All-nil (λ (y : Kept). x.position ≢ y.position)) d
put_distinct (y ∷ ys) x d a = by (cases_of (nat_lt x.time y.time)) (put_distinct ys x rest (All-tail (λ (z : Kept). x.position ≢ z.position) y ys a))
  where
    rest : HaveDistinctPositions ys
    rest i j w l m = d (suc i) (suc j) w (omega arith) (omega arith)

    first : All (λ (z : Kept). y.position ≢ z.position) ys
    first k w l = d 0 (suc k) w (omega arith) (omega arith)

    by : (nat_lt x.time y.time ≡ true) ⊎ (nat_lt x.time y.time ≡ false) → HaveDistinctPositions (put_in_order ys x) → HaveDistinctPositions (put_in_order (y ∷ ys) x)
    by (inl e) later = subst HaveDistinctPositions (sym (put_first y ys x e)) (AllPairs-cons (λ (y z : Kept). y.position ≢ z.position) x (y ∷ ys) a d)
    by (inr e) later =
        subst HaveDistinctPositions (sym (put_behind y ys x e))
        (AllPairs-cons (λ (y z : Kept). y.position ≢ z.position) y (put_in_order ys x) (All_put (λ (z : Kept). y.position ≢ z.position) ys x first (λ s. All-head (λ (z : Kept). x.position ≢ z.position) y ys a (sym s))) later)

pub put_is_kept : (kept : List Kept) (x : Kept) → AreKept kept → x.time < FINAL → All (λ (y : Kept). x.position ≢ y.position) kept → AreKept (put_in_order kept x)
put_is_kept kept x k f a = record {
  in_order = put_times kept x k.in_order;
  early = All_put (λ (z : Kept). z.time < FINAL) kept x k.early f;
  distinct = put_distinct kept x k.distinct a;
}

-- a tuple of an entry within its limits lies before the final time, and has the entry's position
tuple_is_early : (key : List ℕ) (position : ℕ) (what : What) (x : Kept) → is_what_within what ≡ true → tuple_in key position what ≡ Some x → (x.time < FINAL) × (x.position ≡ position)
tuple_is_early key position (Tuple of time value) x w h = by (bytes_eq of key) h
  where
    fits : TIME_MAX < FINAL
    fits = omega arith

    by : (b : Bool) → cond b (Some (record { position = position; time = time; value = value })) None ≡ Some x → (x.time < FINAL) × (x.position ≡ position)
    by true e =
        let same : record { position = position; time = time; value = value } ≡ x = cc in
        let t : time ≤ TIME_MAX = leb-true time TIME_MAX (and_parts (nat_le time TIME_MAX) _ w).0 in
        (subst (λ (z : Kept). z.time < FINAL) same (omega (arith, fits)), sym (ap (λ (z : Kept). z.position) same))
    by false e = cc
tuple_is_early key position (Mark of time) x w h = cc
tuple_is_early key position (Water time) x w h = cc
tuple_is_early key position Idle x w h = cc
tuple_is_early key position End x w h = cc

module _ (lateness sources : ℕ) (key : List ℕ) where
  accepted_is_early : (journal : List Entry) (e : Entry) (x : Kept) → is_what_within e.what ≡ true → accepted_tuple lateness sources key journal e ≡ Some x → (x.time < FINAL) × (x.position ≡ length journal)
  accepted_is_early journal e x w h = by (is_late lateness (water_of sources journal) e.what) h
    where
      by : (b : Bool) → cond b None (tuple_in key (length journal) e.what) ≡ Some x → (x.time < FINAL) × (x.position ≡ length journal)
      by true g = cc
      by false g = tuple_is_early key (length journal) e.what x w g

  step : (kept : List Kept) (n : ℕ) (o : Option Kept) → ((x : Kept) → o ≡ Some x → (x.time < FINAL) × (x.position ≡ n)) → All (λ (y : Kept). y.position < n) kept → AreKept kept → AreKept (option_map_or (put_in_order kept) o kept)
  step kept n None h below k = k
  step kept n (Some x) h below k =
      let g : (x.time < FINAL) × (x.position ≡ n) = h x refl in
      put_is_kept kept x k g.0 (All-weaker (λ (y : Kept). y.position < n) (λ y. x.position ≢ y.position) (λ y l s. omega (arith, g.1)) kept below)

  -- what a journal of entries within their limits keeps
  pub journal_keeps : (journal : List Entry) → All (λ e. is_what_within e.what ≡ true) journal → AreKept (kept_of lateness sources key journal)
  journal_keeps = from_the_front (λ j. All (λ e. is_what_within e.what ≡ true) j → AreKept (kept_of lateness sources key j)) none more
    where
      none : All (λ (e : Entry). is_what_within e.what ≡ true) [] → AreKept (kept_of lateness sources key [])
      none a = subst AreKept (sym (kept_of_nil lateness sources key)) (record { in_order = λ i j d le l. absurd (omega arith); early = All-nil (λ (z : Kept). z.time < FINAL); distinct = λ i j d le l. absurd (omega arith) })

      more : (j : List Entry) (e : Entry) → (All (λ e. is_what_within e.what ≡ true) j → AreKept (kept_of lateness sources key j)) → All (λ e. is_what_within e.what ≡ true) (j ++ e ∷ []) → AreKept (kept_of lateness sources key (j ++ e ∷ []))
      more j e before a =
          let s : All (λ (e : Entry). is_what_within e.what ≡ true) j × All (λ (e : Entry). is_what_within e.what ≡ true) (e ∷ []) = All-split (λ (e : Entry). is_what_within e.what ≡ true) j (e ∷ []) a in
          subst AreKept (sym (kept_of_push lateness sources key j e))
          (step (kept_of lateness sources key j) (length j) (accepted_tuple lateness sources key j e) (λ x g. accepted_is_early j e x (All-head (λ (e : Entry). is_what_within e.what ≡ true) e [] s.1) g) (kept_positions_below lateness sources key j) (before s.0))
