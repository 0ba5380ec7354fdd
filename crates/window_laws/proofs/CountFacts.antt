-- Windows of event counts: what stands, and the shift that a tuple brings.
use Rattle.std.proofs.Common.{◌≡◌, ◌∙◌, ℕ, zero, suc, ◌+◌, ◌-◌, ◌*◌, ◌/◌, ◌<◌, ◌≤◌, Bool, true, false, cond, not, Option, Some, None, List, [], ◌∷◌, ◌++◌, length, get_or, take, drop, map, ap, sym, refl, subst, arith, inl, inr}
use Rattle.std.specs.Prelude.{◌⊎◌, ◌==◌, pos, insert, nat_le, nat_lt}
use Rattle.std.specs.List.{All, Contains, cons_option, filter, filter_map, find, position_or_len, range_with_len}
use Rattle.std.proofs.Math.Nat.{le-div_iff_mul-le, div-mul-le_self}
use Rattle.std.proofs.lemmas.Bool.{and_left, and_right, and_from, and_parts, cases_lt, eqb-true, eq-eqb, false_from_ne_true, le-leb, lt-leb, lt-ltb, le-ltb, ne_eqb}
use Rattle.std.proofs.lemmas.Bool.Decides.{nat_tests}
use Rattle.std.proofs.lemmas.List.{drop-take, get_or-drop, get_or-take, length-drop, length-take, take-append-drop, take-append-le}
use Rattle.std.proofs.lemmas.List.Edits.{get_or-insert_above, length-insert}
use Rattle.std.proofs.lemmas.List.Elements.{All-weaker, filter_map-append}
use Rattle.stream_base.specs.declared.change.Change.{Change}
use Rattle.stream_base.specs.declared.change.Change.TheVariants.{Again, Gone}
use Rattle.stream_base.specs.declared.func.Func.{Func}
use Rattle.stream_base.specs.declared.kept.Kept.{Kept}
use Rattle.stream_base.specs.declared.kind.Kind.TheVariants.{Events}
use Rattle.stream_base.specs.declared.def.Def.{Def}
use Rattle.stream_base.specs.Laws.{TimesDoNotFall}
use Rattle.stream_base.specs.Model.Changes.{Moment, are_same_tuples, emission, emissions, emitted, former_of, is_same, retraction, retractions, row_of}
use Rattle.stream_base.specs.Model.Journal.{put_in_order}
use Rattle.stream_base.specs.Model.Windows.{Instance, counted, instances_of, is_complete, ranks, standing_of}
use Rattle.stream_base.proofs.ChangeFacts.{any_from_member}
use Rattle.stream_base.proofs.Distinct.{All_from_members}
use Rattle.stream_base.proofs.Members.{filter_map_of, filter_same, filter_insert_refused, map_has, map_members, range_has, range_members}
use Rattle.stream_base.proofs.Rising.{Contains-head, Contains-tail}
use Rattle.window_laws.specs.After.{with_tuple}
use Rattle.window_laws.specs.Counts.{changes_of_shift, filled, ranks_between, shifted, upper}
use Rattle.window_laws.specs.Positions.{HaveDistinctPositions}
use Rattle.window_laws.proofs.InstanceFacts.{in_counts, ranks_bound}
use Rattle.window_laws.proofs.LateFacts.{filter_map_map, filter_map_none, find_none, find_start, one_more, same_itself}
use Rattle.stream_base.proofs.Filters.{filter_none}
use Rattle.slice_lists.proofs.Order.{nd_head, nd_tail}
use Rattle.window_laws.proofs.SessionFacts.{put_times}

-- a tuple is at or before a time exactly where it is among so many first ones
upper_at : (kept : List Kept) (time k : ℕ) (d : Kept) → TimesDoNotFall kept → k < length kept → nat_le (get_or kept k d).time time ≡ nat_lt k (upper time kept)
upper_at [] time k d h l = absurd (omega arith)
upper_at (x ∷ xs) time k d h l = by (cases_lt time x.time) k l (λ k l. upper_at xs time k d (nd_tail (λ (y : Kept). y.time) x xs h) l)
  where
    above : All (λ (y : Kept). x.time ≤ y.time) xs
    above = nd_head (λ (y : Kept). y.time) x xs h

    none : time < x.time → upper time (x ∷ xs) ≡ 0
    none g =
        ap (λ b. length (cond b (x ∷ filter (λ (y : Kept). nat_le y.time time) xs) (filter (λ (y : Kept). nat_le y.time time) xs))) (lt-leb x.time time g)
        ∙ ap length (filter_none (λ (y : Kept). nat_le y.time time) xs (All-weaker (λ (y : Kept). x.time ≤ y.time) (λ y. nat_le y.time time ≡ false) (λ y m. lt-leb y.time time (omega arith)) xs above))

    one : x.time ≤ time → upper time (x ∷ xs) ≡ suc (upper time xs)
    one g = ap (λ b. length (cond b (x ∷ filter (λ (y : Kept). nat_le y.time time) xs) (filter (λ (y : Kept). nat_le y.time time) xs))) (le-leb x.time time g)

    later : time < x.time → (k : ℕ) → k < length (x ∷ xs) → time < (get_or (x ∷ xs) k d).time
    later g zero l = g
    later g (suc k) l = omega (arith, above k d (omega arith))

    by : (time < x.time) ⊎ (x.time ≤ time) → (k : ℕ) → k < length (x ∷ xs) → ((k : ℕ) → k < length xs → nat_le (get_or xs k d).time time ≡ nat_lt k (upper time xs)) → nat_le (get_or (x ∷ xs) k d).time time ≡ nat_lt k (upper time (x ∷ xs))
    by (inl g) k l ih = lt-leb (get_or (x ∷ xs) k d).time time (later g k l) ∙ sym (le-ltb k (upper time (x ∷ xs)) (omega (arith, none g)))
    by (inr g) zero l ih = le-leb x.time time g ∙ sym (lt-ltb 0 (upper time (x ∷ xs)) (omega (arith, one g)))
    by (inr g) (suc k) l ih = ih k (omega arith) ∙ (let e : nat_lt k (upper time xs) ≡ nat_lt (suc k) (suc (upper time xs)) = grind (arith, nat_tests) in e) ∙ ap (nat_lt (suc k)) (sym (one g))

upper_fits : (time : ℕ) (kept : List Kept) → upper time kept ≤ length kept
upper_fits time [] = omega arith
upper_fits time (x ∷ xs) = by (nat_le x.time time) (upper_fits time xs)
  where
    by : (b : Bool) → upper time xs ≤ length xs → length (cond b (x ∷ filter (λ (y : Kept). nat_le y.time time) xs) (filter (λ (y : Kept). nat_le y.time time) xs)) ≤ suc (length xs)
    by true h = omega arith
    by false h = omega arith

pub upper_rises : (s t : ℕ) (kept : List Kept) → s ≤ t → upper s kept ≤ upper t kept
upper_rises s t [] l = omega arith
upper_rises s t (x ∷ xs) l = by (cases_lt s x.time) (upper_rises s t xs l)
  where
    by : (s < x.time) ⊎ (x.time ≤ s) → upper s xs ≤ upper t xs → upper s (x ∷ xs) ≤ upper t (x ∷ xs)
    by (inl g) h = two (nat_le x.time t) h (ap (λ b. length (cond b (x ∷ filter (λ (y : Kept). nat_le y.time s) xs) (filter (λ (y : Kept). nat_le y.time s) xs))) (lt-leb x.time s g))
      where
        two : (b : Bool) → upper s xs ≤ upper t xs → upper s (x ∷ xs) ≡ upper s xs → upper s (x ∷ xs) ≤ length (cond b (x ∷ filter (λ (y : Kept). nat_le y.time t) xs) (filter (λ (y : Kept). nat_le y.time t) xs))
        two true h e = omega arith
        two false h e = omega arith
    by (inr g) h =
        let e : upper s (x ∷ xs) ≡ suc (upper s xs) = ap (λ b. length (cond b (x ∷ filter (λ (y : Kept). nat_le y.time s) xs) (filter (λ (y : Kept). nat_le y.time s) xs))) (le-leb x.time s g) in
        let f : upper t (x ∷ xs) ≡ suc (upper t xs) = ap (λ b. length (cond b (x ∷ filter (λ (y : Kept). nat_le y.time t) xs) (filter (λ (y : Kept). nat_le y.time t) xs))) (le-leb x.time t (omega arith)) in
        omega arith

-- ---- ranges
range_below : (a m n : ℕ) → n ≤ m → filter (λ i. nat_lt i (a + n)) (range_with_len a m) ≡ range_with_len a n
range_below a zero zero l = refl
range_below a zero (suc n) l = absurd (omega arith)
range_below a (suc m) zero l =
    ap (λ b. cond b (a ∷ filter (λ i. nat_lt i (a + 0)) (range_with_len (a + 1) m)) (filter (λ i. nat_lt i (a + 0)) (range_with_len (a + 1) m))) (le-ltb a (a + 0) (omega arith))
    ∙ filter_none (λ i. nat_lt i (a + 0)) (range_with_len (a + 1) m) (All_from_members (λ i. nat_lt i (a + 0) ≡ false) (range_with_len (a + 1) m) (λ i c. let r : (a + 1 ≤ i) × (i < a + 1 + m) = range_members (a + 1) m i c in le-ltb i (a + 0) (omega (arith, r.0))))
range_below a (suc m) (suc n) l =
    ap (λ b. cond b (a ∷ filter (λ i. nat_lt i (a + suc n)) (range_with_len (a + 1) m)) (filter (λ i. nat_lt i (a + suc n)) (range_with_len (a + 1) m))) (lt-ltb a (a + suc n) (omega arith))
    ∙ ap (λ l. a ∷ l) ((let e : a + suc n ≡ a + 1 + n = omega arith in ap (λ t. filter (λ i. nat_lt i t) (range_with_len (a + 1) m)) e) ∙ range_below (a + 1) m n (omega arith))

pub range_parts : (a m n : ℕ) → range_with_len a (m + n) ≡ range_with_len a m ++ range_with_len (a + m) n
range_parts a zero n = let e : 0 + n ≡ n = omega arith in let f : a + 0 ≡ a = omega arith in ap (range_with_len a) e ∙ ap (λ b. range_with_len b n) (sym f)
range_parts a (suc m) n =
    let e : suc m + n ≡ suc (m + n) = omega arith in
    let f : a + 1 + m ≡ a + suc m = omega arith in
    ap (range_with_len a) e ∙ ap (λ l. a ∷ l) (range_parts (a + 1) m n ∙ ap (λ b. range_with_len (a + 1) m ++ range_with_len b n) f)

pub none_of : Kept
none_of = record { position = 0; time = 0; value = pos 0 }

-- ---- what stands
module _ (count water : ℕ) (some : 1 ≤ count) (kept : List Kept) (h : TimesDoNotFall kept) where
  pub complete_rank : (i : ℕ) → i < length kept / count → is_complete water (ranks count kept i) ≡ nat_lt i (0 + upper water kept / count)
  complete_rank i l =
      let room : (i + 1) * count ≤ length kept = in_counts i count (length kept) l in
      let step : (i + 1) * count ≡ i * count + count = grind arith in
      ap (λ t. nat_le t water) (ranks_bound count kept i none_of some room)
      ∙ upper_at kept water ((i + 1) * count - 1) none_of h (omega (arith, step))
      ∙ by (cases_lt i (upper water kept / count)) step
    where
      by : (i < upper water kept / count) ⊎ (upper water kept / count ≤ i) → (i + 1) * count ≡ i * count + count → nat_lt ((i + 1) * count - 1) (upper water kept) ≡ nat_lt i (0 + upper water kept / count)
      by (inl g) step =
          let f : (i + 1) * count ≤ upper water kept = (le-div_iff_mul-le {k = count} {x = i + 1} {y = upper water kept} some).0 (omega arith) in
          lt-ltb ((i + 1) * count - 1) (upper water kept) (omega (arith, step)) ∙ sym (lt-ltb i (0 + upper water kept / count) (omega arith))
      by (inr g) step =
          le-ltb ((i + 1) * count - 1) (upper water kept)
          (elim (cases_lt (upper water kept) ((i + 1) * count)) [
            | inl k ↦ omega (arith, step)
            | inr k ↦ absurd (let f : i + 1 ≤ upper water kept / count = (le-div_iff_mul-le {k = count} {x = i + 1} {y = upper water kept} some).1 k in omega arith)
          ])
          ∙ sym (le-ltb i (0 + upper water kept / count) (omega arith))

  standing_ranks : filter (is_complete water) (counted count kept) ≡ map (ranks count kept) (range_with_len 0 (upper water kept / count))
  standing_ranks =
      filter_map_of (is_complete water) (ranks count kept) (range_with_len 0 (length kept / count))
      ∙ ap (map (ranks count kept)) (filter_same (λ i. is_complete water (ranks count kept i)) (λ i. nat_lt i (0 + upper water kept / count)) (range_with_len 0 (length kept / count)) (λ i c. complete_rank i (let r : (0 ≤ i) × (i < 0 + length kept / count) = range_members 0 (length kept / count) i c in omega (arith, r.1)))
      ∙ range_below 0 (length kept / count) (upper water kept / count) (fits (upper water kept) (length kept) (upper_fits water kept)))
    where
      fits : (m n : ℕ) → m ≤ n → m / count ≤ n / count
      fits m n l = (le-div_iff_mul-le {k = count} {x = m / count} {y = n} some).1 (omega (arith, div-mul-le_self m count))

pub standing_of_counts : (count water : ℕ) (kept : List Kept) (marks : List ℕ) → 1 ≤ count → TimesDoNotFall kept → standing_of (Events count) kept marks water ≡ ranks_between count kept 0 (upper water kept / count)
unfolding instances_of
standing_of_counts count water kept marks some h = standing_ranks count water some kept h ∙ (let e : upper water kept / count ≡ upper water kept / count - 0 = omega arith in ap (λ n. map (ranks count kept) (range_with_len 0 n)) e)

-- ---- one tuple more
pub upper_put_counts : (time : ℕ) (kept : List Kept) (x : Kept) → x.time ≤ time → upper time (put_in_order kept x) ≡ upper time kept + 1
upper_put_counts time kept x l = one_more (λ y. nat_le y.time time) kept _ x (le-leb x.time time l)

pub upper_put_passes : (time : ℕ) (kept : List Kept) (x : Kept) → time < x.time → upper time (put_in_order kept x) ≡ upper time kept
upper_put_passes time kept x l = ap length (filter_insert_refused (λ y. nat_le y.time time) kept _ x (lt-leb x.time time l))

pub upper_put : (time : ℕ) (kept : List Kept) (x : Kept) → upper time (put_in_order kept x) ≡ upper time kept + cond (nat_le x.time time) 1 0
upper_put time kept x =
    elim (cases_lt time x.time) [
      | inl l ↦ (let z : upper time kept ≡ upper time kept + 0 = omega arith in upper_put_passes time kept x l ∙ z ∙ ap (λ b. upper time kept + cond b 1 0) (sym (lt-leb x.time time l)))
      | inr l ↦ upper_put_counts time kept x l ∙ ap (λ b. upper time kept + cond b 1 0) (sym (le-leb x.time time l))
    ]

-- a tuple is put behind those at or before its time
pub put_at_rank : (kept : List Kept) (x : Kept) → TimesDoNotFall kept → position_or_len (λ (y : Kept). nat_lt x.time y.time) kept ≡ upper x.time kept
put_at_rank [] x h = refl
put_at_rank (y ∷ ys) x h = by (cases_lt x.time y.time) (put_at_rank ys x (nd_tail (λ (z : Kept). z.time) y ys h))
  where
    above : All (λ (z : Kept). y.time ≤ z.time) ys
    above = nd_head (λ (z : Kept). z.time) y ys h

    by : (x.time < y.time) ⊎ (y.time ≤ x.time) → position_or_len (λ (z : Kept). nat_lt x.time z.time) ys ≡ upper x.time ys → position_or_len (λ (z : Kept). nat_lt x.time z.time) (y ∷ ys) ≡ upper x.time (y ∷ ys)
    by (inl g) ih =
        ap (λ b. cond (not b) (1 + position_or_len (λ (z : Kept). nat_lt x.time z.time) ys) 0) (lt-ltb x.time y.time g)
        ∙ sym
        (ap (λ b. length (cond b (y ∷ filter (λ (z : Kept). nat_le z.time x.time) ys) (filter (λ (z : Kept). nat_le z.time x.time) ys))) (lt-leb y.time x.time g)
        ∙ ap length (filter_none (λ (z : Kept). nat_le z.time x.time) ys (All-weaker (λ (z : Kept). y.time ≤ z.time) (λ z. nat_le z.time x.time ≡ false) (λ z m. lt-leb z.time x.time (omega arith)) ys above)))
    by (inr g) ih =
        ap (λ b. cond (not b) (1 + position_or_len (λ (z : Kept). nat_lt x.time z.time) ys) 0) (le-ltb x.time y.time g)
        ∙ (let e : 1 + upper x.time ys ≡ suc (upper x.time ys) = omega arith in ap (λ n. 1 + n) ih ∙ e)
        ∙ sym (ap (λ b. length (cond b (y ∷ filter (λ (z : Kept). nat_le z.time x.time) ys) (filter (λ (z : Kept). nat_le z.time x.time) ys))) (le-leb y.time x.time g))

differ_at : (xs ys : List Kept) (k : ℕ) (d : Kept) → k < length xs → k < length ys → ((get_or xs k d).position ≡ (get_or ys k d).position → ⊥) → are_same_tuples xs ys ≡ false
differ_at [] ys k d l m n = absurd (omega arith)
differ_at (x ∷ xs) [] k d l m n = absurd (omega arith)
differ_at (x ∷ xs) (y ∷ ys) zero d l m n = and_left (x.position == y.position) (are_same_tuples xs ys) (ne_eqb x.position y.position n)
differ_at (x ∷ xs) (y ∷ ys) (suc k) d l m n = and_right (x.position == y.position) (are_same_tuples xs ys) (differ_at xs ys k d (omega arith) (omega arith) n)

times_mono : (a b c : ℕ) → a ≤ b → a * c ≤ b * c
times_mono a b c h = grind arith

module _ (count water : ℕ) (some : 1 ≤ count) (kept : List Kept) (h : TimesDoNotFall kept) (x : Kept) where
  rank : ℕ
  rank = upper x.time kept

  rank_fits : upper x.time kept ≤ length kept
  rank_fits = upper_fits x.time kept

  put_is_insert : put_in_order kept x ≡ insert kept (upper x.time kept) x
  put_is_insert = ap (λ n. insert kept n x) (put_at_rank kept x h)

  -- an instance that ends at or before the rank stays
  pub same_chosen : (i : ℕ) → (i + 1) * count ≤ upper x.time kept → take count (drop (i * count) (put_in_order kept x)) ≡ take count (drop (i * count) kept)
  same_chosen i l =
      let r = upper x.time kept in
      let step : (i + 1) * count ≡ i * count + count = grind arith in
      let fits : length (take r kept) ≡ r = simp (length-take) (omega (arith, rank_fits)) in
      ap (λ l. take count (drop (i * count) l)) put_is_insert
      ∙ sym (drop-take (i * count) count (take r kept ++ x ∷ drop r kept))
      ∙ ap (drop (i * count)) (take-append-le (i * count + count) (take r kept) (x ∷ drop r kept) (omega (arith, step)) ∙ sym (take-append-le (i * count + count) (take r kept) (drop r kept) (omega (arith, step))) ∙ ap (take (i * count + count)) (take-append-drop r kept))
      ∙ drop-take (i * count) count kept

  same_number : (i a : ℕ) (tuples : List Kept) → is_same (ranks count (put_in_order kept x) i) (ranks count tuples a) ≡ true → a ≡ i
  same_number i a tuples e =
      let low : i * count ≡ a * count = eqb-true (i * count) (a * count) (and_parts (i * count == a * count) ((i + 1) * count == (a + 1) * count) e).0 in
      elim (cases_lt i a) [
        | inl l ↦ absurd (let m : (i + 1) * count ≤ a * count = times_mono (i + 1) a count (omega arith) in let step : (i + 1) * count ≡ i * count + count = grind arith in omega arith)
        | inr l ↦ elim (cases_lt a i) [
          | inl k ↦ absurd (let m : (a + 1) * count ≤ i * count = times_mono (a + 1) i count (omega arith) in let step : (a + 1) * count ≡ a * count + count = grind arith in omega arith)
          | inr k ↦ omega arith
        ]
      ]

  own_number : (i : ℕ) (one two : List Kept) → is_same (ranks count one i) (ranks count two i) ≡ true
  own_number i one two = and_from (i * count == i * count) ((i + 1) * count == (i + 1) * count) (eq-eqb (i * count) (i * count) refl) (eq-eqb ((i + 1) * count) ((i + 1) * count) refl)

  stood : List Instance
  stood = map (ranks count kept) (range_with_len 0 (upper water kept / count))

  found : (i : ℕ) → i < upper water kept / count → find (is_same (ranks count (put_in_order kept x) i)) (map (ranks count kept) (range_with_len 0 (upper water kept / count))) ≡ Some (ranks count kept i)
  found i l = find_start (ranks count kept) i (ranks count (put_in_order kept x) i) (range_with_len 0 (upper water kept / count)) (λ a e. same_number i a kept e) (own_number i (put_in_order kept x) kept) (range_has 0 (upper water kept / count) i (omega arith) (omega arith))

  not_found : (i : ℕ) → upper water kept / count ≤ i → find (is_same (ranks count (put_in_order kept x) i)) (map (ranks count kept) (range_with_len 0 (upper water kept / count))) ≡ None
  not_found i l =
      find_none (is_same (ranks count (put_in_order kept x) i)) (map (ranks count kept) (range_with_len 0 (upper water kept / count)))
      (λ j c. let m : (a : ℕ) × Contains (range_with_len 0 (upper water kept / count)) a × (ranks count kept a ≡ j) = map_members (ranks count kept) (range_with_len 0 (upper water kept / count)) j c in
      let r : (0 ≤ m.0) × (m.0 < 0 + upper water kept / count) = range_members 0 (upper water kept / count) m.0 m.1 in
      false_from_ne_true (is_same (ranks count (put_in_order kept x) i) j)
      (λ e. let s : m.0 ≡ i = same_number i m.0 kept (subst (λ k. is_same (ranks count (put_in_order kept x) i) k ≡ true) (sym m.2) e) in omega (arith, r.1)))

  -- an instance from the rank on, that stood, selects other tuples
  other_chosen : HaveDistinctPositions (put_in_order kept x) → (i : ℕ) → upper x.time kept < (i + 1) * count → (i + 1) * count ≤ length kept → are_same_tuples (take count (drop (i * count) kept)) (take count (drop (i * count) (put_in_order kept x))) ≡ false
  other_chosen distinct i l m =
      elim (cases_lt (i * count) (upper x.time kept)) [
        | inl g ↦ at (upper x.time kept) (omega arith) (omega arith) (omega arith)
        | inr g ↦ at (i * count) (omega arith) (omega arith) (omega (arith, step))
      ]
    where
      step : (i + 1) * count ≡ i * count + count
      step = grind arith

      longer : length (put_in_order kept x) ≡ length kept + 1
      longer = ap length put_is_insert ∙ length-insert kept (upper x.time kept) x rank_fits

      at : (j : ℕ) → upper x.time kept ≤ j → i * count ≤ j → j < (i + 1) * count → are_same_tuples (take count (drop (i * count) kept)) (take count (drop (i * count) (put_in_order kept x))) ≡ false
      at j a b c =
          let k = j - i * count in
          let old : get_or (take count (drop (i * count) kept)) k none_of ≡ get_or kept j none_of = get_or-take count (drop (i * count) kept) k none_of (omega (arith, step)) ∙ get_or-drop (i * count) kept k none_of ∙ (let e : i * count + k ≡ j = omega arith in ap (λ n. get_or kept n none_of) e) in
          let new : get_or (take count (drop (i * count) (put_in_order kept x))) k none_of ≡ get_or (put_in_order kept x) j none_of = get_or-take count (drop (i * count) (put_in_order kept x)) k none_of (omega (arith, step)) ∙ get_or-drop (i * count) (put_in_order kept x) k none_of ∙ (let e : i * count + k ≡ j = omega arith in ap (λ n. get_or (put_in_order kept x) n none_of) e) in
          let moved : get_or (put_in_order kept x) (j + 1) none_of ≡ get_or kept j none_of = ap (λ l. get_or l (j + 1) none_of) put_is_insert ∙ get_or-insert_above kept (upper x.time kept) x none_of j a rank_fits in
          let one : length (take count (drop (i * count) kept)) ≡ count = simp (length-take, length-drop) (omega (arith, step)) in
          let two : length (take count (drop (i * count) (put_in_order kept x))) ≡ count = simp (length-take, length-drop) (omega (arith, step, longer)) in
          differ_at (take count (drop (i * count) kept)) (take count (drop (i * count) (put_in_order kept x))) k none_of (omega (arith, step, one)) (omega (arith, step, two))
          (λ e. distinct j (j + 1) none_of (omega arith) (omega (arith, longer)) (sym (ap (λ (y : Kept). y.position) new) ∙ sym e ∙ ap (λ (y : Kept). y.position) old ∙ sym (ap (λ (y : Kept). y.position) moved)))

  none_gone : (window : ℕ) (key : List ℕ) (func : Func) (stand : ℕ) → upper water kept / count ≤ stand → filter_map (retraction window key func (map (ranks count (put_in_order kept x)) (range_with_len 0 stand))) (map (ranks count kept) (range_with_len 0 (upper water kept / count))) ≡ []
  none_gone window key func stand l =
      filter_map_map (retraction window key func (map (ranks count (put_in_order kept x)) (range_with_len 0 stand))) (ranks count kept) (range_with_len 0 (upper water kept / count))
      ∙ filter_map_none (λ i. retraction window key func (map (ranks count (put_in_order kept x)) (range_with_len 0 stand)) (ranks count kept i)) (range_with_len 0 (upper water kept / count))
      (λ i c. let r : (0 ≤ i) × (i < 0 + upper water kept / count) = range_members 0 (upper water kept / count) i c in
      ap (λ b. cond b None (Some (Gone (row_of window key func (ranks count kept i)))))
      (any_from_member (is_same (ranks count kept i)) (map (ranks count (put_in_order kept x)) (range_with_len 0 stand)) (ranks count (put_in_order kept x) i) (map_has (ranks count (put_in_order kept x)) (range_with_len 0 stand) i (range_has 0 stand i (omega arith) (omega (arith, r.1)))) (own_number i kept (put_in_order kept x))))

  filter_map_each : {Y : Type 0} (f : ℕ → Option Y) (g : ℕ → Y) (is : List ℕ) → ((i : ℕ) → Contains is i → f i ≡ Some (g i)) → filter_map f is ≡ map g is
  filter_map_each f g [] e = refl
  filter_map_each f g (i ∷ is) e = λ j. cons_option (e i (Contains-head i is) j) (filter_map_each f g is (λ k c. e k (Contains-tail i is k c)) j)

  quotient_mono : (m n : ℕ) → m ≤ n → m / count ≤ n / count
  quotient_mono m n l = (le-div_iff_mul-le {k = count} {x = m / count} {y = n} some).1 (omega (arith, div-mul-le_self m count))

  -- what comes, by how far each instance lies
  module _ (distinct : HaveDistinctPositions (put_in_order kept x)) (window : ℕ) (key : List ℕ) (func : Func) where
    abbrev coming : ℕ → Option Change
    coming i = emission window key func (map (ranks count kept) (range_with_len 0 (upper water kept / count))) (ranks count (put_in_order kept x) i)

    unchanged : (i : ℕ) → i < upper water kept / count → (i + 1) * count ≤ upper x.time kept → coming i ≡ None
    unchanged i l m =
        ap (emitted window key func (ranks count (put_in_order kept x) i)) (found i l)
        ∙ ap (λ b. cond b None (Some (Again (row_of window key func (ranks count (put_in_order kept x) i)) (former_of func (ranks count kept i))))) (ap (are_same_tuples (take count (drop (i * count) kept))) (same_chosen i m) ∙ same_itself (take count (drop (i * count) kept)))

    changed : (i : ℕ) → i < upper water kept / count → upper x.time kept < (i + 1) * count → coming i ≡ Some (shifted window key func count kept x i)
    changed i l m =
        let room : (i + 1) * count ≤ upper water kept = (le-div_iff_mul-le {k = count} {x = i + 1} {y = upper water kept} some).0 (omega arith) in
        ap (emitted window key func (ranks count (put_in_order kept x) i)) (found i l)
        ∙ ap (λ b. cond b None (Some (Again (row_of window key func (ranks count (put_in_order kept x) i)) (former_of func (ranks count kept i))))) (other_chosen distinct i m (omega (arith, upper_fits water kept)))

    fresh : (i : ℕ) → upper water kept / count ≤ i → coming i ≡ Some (filled window key func count (put_in_order kept x) i)
    fresh i l = ap (emitted window key func (ranks count (put_in_order kept x) i)) (not_found i l)

    -- the parts of what comes
    come_parts : (enters old stand : ℕ) → old ≡ upper water kept / count → enters ≤ old → old ≤ stand → ((i : ℕ) → i < enters → (i + 1) * count ≤ upper x.time kept) → ((i : ℕ) → enters ≤ i → i < old → upper x.time kept < (i + 1) * count)
        → filter_map coming (range_with_len 0 stand) ≡ map (shifted window key func count kept x) (range_with_len enters (old - enters)) ++ map (filled window key func count (put_in_order kept x)) (range_with_len old (stand - old))
    come_parts enters old stand is a b below above =
        ap (λ n. filter_map coming (range_with_len 0 n)) whole
        ∙ ap (filter_map coming) (range_parts 0 (enters + (old - enters)) (stand - old))
        ∙ filter_map-append coming (range_with_len 0 (enters + (old - enters))) (range_with_len (0 + (enters + (old - enters))) (stand - old))
        ∙ (λ j. (ap (filter_map coming) (range_parts 0 enters (old - enters)) ∙ filter_map-append coming (range_with_len 0 enters) (range_with_len (0 + enters) (old - enters))) j ++ filter_map coming (range_with_len (third j) (stand - old)))
        ∙ (λ j. (first j ++ second j) ++ filter_map_each coming (filled window key func count (put_in_order kept x)) (range_with_len old (stand - old)) (λ i c. let r : (old ≤ i) × (i < old + (stand - old)) = range_members old (stand - old) i c in fresh i (omega (arith, is, r.0))) j)
      where
        whole : stand ≡ enters + (old - enters) + (stand - old)
        whole = omega arith

        third : 0 + (enters + (old - enters)) ≡ old
        third = omega arith

        first : filter_map coming (range_with_len 0 enters) ≡ []
        first = filter_map_none coming (range_with_len 0 enters) (λ i c. let r : (0 ≤ i) × (i < 0 + enters) = range_members 0 enters i c in unchanged i (omega (arith, is, a, r.1)) (below i (omega (arith, r.1))))

        second : filter_map coming (range_with_len (0 + enters) (old - enters)) ≡ map (shifted window key func count kept x) (range_with_len enters (old - enters))
        second =
            (let e : 0 + enters ≡ enters = omega arith in ap (λ n. filter_map coming (range_with_len n (old - enters))) e)
            ∙ filter_map_each coming (shifted window key func count kept x) (range_with_len enters (old - enters)) (λ i c. let r : (enters ≤ i) × (i < enters + (old - enters)) = range_members enters (old - enters) i c in
            let l : i < old = omega (arith, r.1, r.0) in changed i (omega (arith, is)) (above i r.0 l))

    come : filter_map coming (range_with_len 0 (upper water (put_in_order kept x) / count)) ≡ changes_of_shift window key func count water kept x
    come = elim (cases_lt water x.time) [ inl l ↦ early l | inr l ↦ late l ]
      where
        late : x.time ≤ water → filter_map coming (range_with_len 0 (upper water (put_in_order kept x) / count)) ≡ changes_of_shift window key func count water kept x
        late l =
            come_parts (upper x.time kept / count) (upper water kept / count) (upper water (put_in_order kept x) / count) refl
            (quotient_mono (upper x.time kept) (upper water kept) (upper_rises x.time water kept l))
            (quotient_mono (upper water kept) (upper water (put_in_order kept x)) (omega (arith, upper_put_counts water kept x l)))
            (λ i g. (le-div_iff_mul-le {k = count} {x = i + 1} {y = upper x.time kept} some).0 (omega arith))
            (λ i g k. elim (cases_lt (upper x.time kept) ((i + 1) * count)) [ inl m ↦ m | inr m ↦ absurd (let f : i + 1 ≤ upper x.time kept / count = (le-div_iff_mul-le {k = count} {x = i + 1} {y = upper x.time kept} some).1 m in omega arith) ])

        early : water < x.time → filter_map coming (range_with_len 0 (upper water (put_in_order kept x) / count)) ≡ changes_of_shift window key func count water kept x
        early l =
            let same : upper water (put_in_order kept x) / count ≡ upper water kept / count = ap (λ n. n / count) (upper_put_passes water kept x l) in
            let below : upper water kept / count ≤ upper x.time kept / count = quotient_mono (upper water kept) (upper x.time kept) (upper_rises water x.time kept (omega arith)) in
            let none : upper water kept / count - upper x.time kept / count ≡ 0 = omega arith in
            come_parts (upper water kept / count) (upper water kept / count) (upper water (put_in_order kept x) / count) refl (omega arith) (omega arith)
            (λ i g. let f : (i + 1) * count ≤ upper water kept = (le-div_iff_mul-le {k = count} {x = i + 1} {y = upper water kept} some).0 (omega arith) in omega (arith, upper_rises water x.time kept (omega arith)))
            (λ i g k. absurd (omega arith))
            ∙ (let zero_left : upper water kept / count - upper water kept / count ≡ 0 = omega arith in
            λ j. map (shifted window key func count kept x) (range_with_len (upper water kept / count) (zero_left j)) ++ map (filled window key func count (put_in_order kept x)) (range_with_len (upper water kept / count) (upper water (put_in_order kept x) / count - upper water kept / count)))
            ∙ (let back : 0 ≡ upper water kept / count - upper x.time kept / count = sym none in
            λ j. map (shifted window key func count kept x) (range_with_len (upper x.time kept / count) (back j)) ++ map (filled window key func count (put_in_order kept x)) (range_with_len (upper water kept / count) (upper water (put_in_order kept x) / count - upper water kept / count)))

pub shift_retracts_nothing : (window : ℕ) (key : List ℕ) (count : ℕ) (def : Def) (m : Moment) (x : Kept) → def.kind ≡ Events count → 1 ≤ count → TimesDoNotFall m.kept → retractions key m (with_tuple m x) (window, def) ≡ []
unfolding instances_of
shift_retracts_nothing window key count def m x e some h =
    (λ i. filter_map (retraction window key def.func (standing_of (e i) (put_in_order m.kept x) m.marks m.water)) (standing_of (e i) m.kept m.marks m.water))
    ∙ (λ i. filter_map (retraction window key def.func (standing_ranks count m.water some (put_in_order m.kept x) (put_times m.kept x h) i)) (standing_ranks count m.water some m.kept h i))
    ∙ none_gone count m.water some m.kept h x window key def.func (upper m.water (put_in_order m.kept x) / count) (quotient_mono count m.water some m.kept h x (upper m.water m.kept) (upper m.water (put_in_order m.kept x)) (omega (arith, grows)))
  where
    grows : upper m.water m.kept ≤ upper m.water (put_in_order m.kept x)
    grows = elim (cases_lt m.water x.time) [ inl l ↦ omega (arith, upper_put_passes m.water m.kept x l) | inr l ↦ omega (arith, upper_put_counts m.water m.kept x l) ]

pub shift_changes : (window : ℕ) (key : List ℕ) (count : ℕ) (def : Def) (m : Moment) (x : Kept) → def.kind ≡ Events count → 1 ≤ count → TimesDoNotFall m.kept → HaveDistinctPositions (put_in_order m.kept x) → emissions key m (with_tuple m x) (window, def) ≡ changes_of_shift window key def.func count m.water m.kept x
unfolding instances_of
shift_changes window key count def m x e some h distinct =
    (λ i. filter_map (emission window key def.func (standing_of (e i) m.kept m.marks m.water)) (standing_of (e i) (put_in_order m.kept x) m.marks m.water))
    ∙ (λ i. filter_map (emission window key def.func (standing_ranks count m.water some m.kept h i)) (standing_ranks count m.water some (put_in_order m.kept x) (put_times m.kept x h) i))
    ∙ filter_map_map (emission window key def.func (map (ranks count m.kept) (range_with_len 0 (upper m.water m.kept / count)))) (ranks count (put_in_order m.kept x)) (range_with_len 0 (upper m.water (put_in_order m.kept x) / count))
    ∙ come count m.water some m.kept h x distinct window key def.func
