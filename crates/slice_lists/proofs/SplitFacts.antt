-- A slice in two parts.
use Rattle.std.proofs.Common.{◌≡◌, ◌∙◌, ℕ, zero, suc, ◌+◌, ◌-◌, ◌<◌, ◌≤◌, Bool, true, false, List, [], ◌∷◌, ◌++◌, length, get_or, set, take, drop, map, ap, sym, refl, subst, arith, inl, inr, append_assoc}
use Rattle.std.specs.Prelude.{insert, nat_le, nat_lt, FitsSigned}
use Rattle.std.specs.Int.{w64}
use Rattle.std.specs.List.{All, filter}
use Rattle.std.proofs.lemmas.Bool.{cases_lt, leb-true, lt-ltb, le-ltb, lt-leb, le-leb, ltb-true}
use Rattle.std.proofs.lemmas.List.{append-nil, drop-map, length-drop, length-take, map-append, take-append-drop, take-map, get_or-drop, get_or-take}
use Rattle.std.proofs.lemmas.List.Elements.{All-head, All-tail, All-weaker, filter-append, filter_passes}
use Rattle.std.proofs.lemmas.List.Concat.{flat_map-append}
use Rattle.stream_base.specs.declared.kept.Kept.{Kept}
use Rattle.stream_base.specs.declared.limits.TheConstants.{TIME_MAX}
use Rattle.stream_base.specs.Laws.{TimesDoNotFall}
use Rattle.stream_base.specs.Model.Windows.{first_time, last_time}
use Rattle.slice_lists.specs.Runs.{AreInOrder, IsPartFrom, IsRun}
use Rattle.stream_base.proofs.Filters.{filter_all, filter_none}
use Rattle.stream_base.specs.Places.{IsPlaceOf}
use Rattle.slice_lists.proofs.RunEdits.{parted, replaced}
use Rattle.slice_lists.specs.declared.slice.Slice.{Slice}
use Rattle.slice_lists.specs.Slices.{AreSlices, joined, slice_of, split_at}
use Rattle.slice_lists.proofs.PlaceFacts.{last_is, some_tuple}
use Rattle.slice_lists.proofs.SliceOrder.{IsApart, IsNear, times_of_order}
use Rattle.slice_lists.proofs.SliceParts.{in_parts, joined_parts}

pub run_in_order : (run : List Kept) → IsRun IsNear run → TimesDoNotFall run
run_in_order run r = subst TimesDoNotFall (append-nil run) (times_of_order (run ∷ []) (r, tt, tt))

-- the parts at a place
module _ (tuples : List Kept) (time cut : ℕ) (h : IsPlaceOf (λ x. x.time) tuples time cut) where
  low_part : All (λ (x : Kept). x.time < time) (take cut tuples)
  low_part k d l =
      let below : k < cut = omega (arith, length-take cut tuples) in
      subst (λ (y : Kept). y.time < time) (sym (get_or-take cut tuples k d below)) (h.before k d (omega arith) below)

  high_part : All (λ (x : Kept). time ≤ x.time) (drop cut tuples)
  high_part k d l =
      subst (λ (y : Kept). time ≤ y.time) (sym (get_or-drop cut tuples k d)) (h.behind (cut + k) d (omega arith) (omega (arith, length-drop cut tuples)))

  pub front_is : filter (λ x. nat_lt x.time time) tuples ≡ take cut tuples
  front_is =
      ap (filter (λ (x : Kept). nat_lt x.time time)) (sym (take-append-drop cut tuples))
      ∙ filter-append (λ (x : Kept). nat_lt x.time time) (take cut tuples) (drop cut tuples)
      ∙ (λ i. filter_all (λ (x : Kept). nat_lt x.time time) (take cut tuples) (All-weaker (λ (x : Kept). x.time < time) (λ x. nat_lt x.time time ≡ true) (λ x l. lt-ltb x.time time l) (take cut tuples) low_part) i
      ++ filter_none (λ (x : Kept). nat_lt x.time time) (drop cut tuples) (All-weaker (λ (x : Kept). time ≤ x.time) (λ x. nat_lt x.time time ≡ false) (λ x l. le-ltb x.time time l) (drop cut tuples) high_part) i)
      ∙ append-nil (take cut tuples)

  pub back_is : filter (λ x. nat_le time x.time) tuples ≡ drop cut tuples
  back_is =
      ap (filter (λ (x : Kept). nat_le time x.time)) (sym (take-append-drop cut tuples))
      ∙ filter-append (λ (x : Kept). nat_le time x.time) (take cut tuples) (drop cut tuples)
      ∙ (λ i. filter_none (λ (x : Kept). nat_le time x.time) (take cut tuples) (All-weaker (λ (x : Kept). x.time < time) (λ x. nat_le time x.time ≡ false) (λ x l. lt-leb time x.time l) (take cut tuples) low_part) i
      ++ filter_all (λ (x : Kept). nat_le time x.time) (drop cut tuples) (All-weaker (λ (x : Kept). time ≤ x.time) (λ x. nat_le time x.time ≡ true) (λ x l. le-leb time x.time l) (drop cut tuples) high_part) i)

  pub whole_is : tuples ≡ filter (λ x. nat_lt x.time time) tuples ++ filter (λ x. nat_le time x.time) tuples
  whole_is = sym (take-append-drop cut tuples) ∙ (λ i. sym front_is i ++ sym back_is i)

  -- neither is empty
  pub cut_above : first_time tuples < time → 0 < length tuples → 0 < cut
  cut_above l n = by tuples h l n
    where
      by : (tuples : List Kept) → IsPlaceOf (λ x. x.time) tuples time cut → first_time tuples < time → 0 < length tuples → 0 < cut
      by [] h l n = absurd (omega arith)
      by (x ∷ xs) h l n = pos cut h
        where
          pos : (c : ℕ) → IsPlaceOf (λ x. x.time) (x ∷ xs) time c → 0 < c
          pos zero h = let g : time ≤ x.time = h.behind 0 x (omega arith) (omega arith) in absurd (omega arith)
          pos (suc c) h = omega arith

  pub cut_below : time ≤ last_time tuples → 0 < length tuples → cut < length tuples
  cut_below l n =
      elim (cases_lt cut (length tuples)) [
        | inl m ↦ m
        | inr m ↦ absurd (
            let g : (get_or tuples (length tuples - 1) some_tuple).time < time = h.before (length tuples - 1) some_tuple (omega arith) (omega arith) in
            omega (arith, g, last_is tuples))
      ]

-- there are tuples at all
pub some_tuples : (tuples : List Kept) (time : ℕ) → first_time tuples < time → time ≤ last_time tuples → 0 < length tuples
some_tuples [] time l h = absurd (omega arith)
some_tuples (x ∷ xs) time l h = omega arith

-- how tuples show
pub first_is : (tuples : List Kept) → (get_or tuples 0 some_tuple).time ≡ first_time tuples
first_is [] = refl
first_is (x ∷ xs) = refl

pub shown_is : (tuples : List Kept) → record { low = (get_or tuples 0 some_tuple).time; high = (get_or tuples (length tuples - 1) some_tuple).time; number = length tuples } ≡ slice_of tuples
shown_is tuples = λ i. record { low = first_is tuples i; high = sym (last_is tuples) i; number = length tuples }

-- ---- the order of the parts
some_run : (run : List Kept) → IsRun IsNear run → 0 < length run
some_run [] r = absurd r
some_run (x ∷ xs) r = omega arith

run_split : (front back : List Kept) → 0 < length front → 0 < length back → IsRun IsNear (front ++ back) → IsRun IsNear front × IsRun IsNear back
run_split [] back m n r = absurd (omega arith)
run_split (x ∷ []) [] m n r = absurd (omega arith)
run_split (x ∷ []) (z ∷ zs) m n r = (tt, r.1)
run_split (x ∷ y ∷ ys) back m n r = let s = run_split (y ∷ ys) back (omega arith) n r.1 in ((r.0, s.0), s.1)

last_in : (P : Kept → Type 0) (Q : ℕ → Type 0) → ((x : Kept) → P x → Q x.time) → (run : List Kept) → 0 < length run → All P run → Q (last_time run)
last_in P Q f [] n a = absurd (omega arith)
last_in P Q f (x ∷ []) n a = f x (All-head P x [] a)
last_in P Q f (x ∷ y ∷ ys) n a = last_in P Q f (y ∷ ys) (omega arith) (All-tail P x (y ∷ ys) a)

first_in : (P : Kept → Type 0) (Q : ℕ → Type 0) → ((x : Kept) → P x → Q x.time) → (run : List Kept) → 0 < length run → All P run → Q (first_time run)
first_in P Q f [] n a = absurd (omega arith)
first_in P Q f (x ∷ xs) n a = f x (All-head P x xs a)

last_same : (front back : List Kept) → 0 < length back → last_time (front ++ back) ≡ last_time back
last_same [] back n = refl
last_same (x ∷ []) [] n = absurd (omega arith)
last_same (x ∷ []) (z ∷ zs) n = refl
last_same (x ∷ y ∷ ys) back n = last_same (y ∷ ys) back n

pub split_order : (before : List (List Kept)) (run front back : List Kept) (behind : List (List Kept)) (time : ℕ) → AreInOrder (before ++ run ∷ behind) → run ≡ front ++ back → 0 < length front → 0 < length back → All (λ (x : Kept). x.time < time) front → All (λ (x : Kept). time ≤ x.time) back
    → AreInOrder (before ++ front ∷ back ∷ behind)
split_order before run front back behind time o e m n low high =
    let s = parted IsNear IsApart before (run ∷ behind) o in
    let r = run_split front back m n (subst (IsRun IsNear) e s.1.0) in
    let a : last_time front < time = last_in (λ (x : Kept). x.time < time) (λ t. t < time) (λ x l. l) front m low in
    let b : time ≤ first_time back = first_in (λ (x : Kept). time ≤ x.time) (λ t. time ≤ t) (λ x l. l) back n high in
    replaced IsNear IsApart before run front behind (back ∷ behind) o (ap first_time e ∙ first_same front back m) r.0 (let g : last_time front < first_time back = omega arith in g) (r.1, off behind s.1.1, s.1.2)
  where
    first_same : (front back : List Kept) → 0 < length front → first_time (front ++ back) ≡ first_time front
    first_same [] back m = absurd (omega arith)
    first_same (x ∷ xs) back m = refl

    off : (others : List (List Kept)) → IsPartFrom IsApart run others → IsPartFrom IsApart back others
    off [] c = tt
    off (next ∷ others) c = subst (λ t. t < first_time next) (ap last_time e ∙ last_same front back n) c

module _ (runs : List (List Kept)) (at time : ℕ) (l : at < length runs) where
  abbrev run : List Kept
  run = get_or runs at []

  abbrev front : List Kept
  front = filter (λ (x : Kept). nat_lt x.time time) (get_or runs at [])

  abbrev back : List Kept
  back = filter (λ (x : Kept). nat_le time x.time) (get_or runs at [])

  module _ (whole : get_or runs at [] ≡ filter (λ (x : Kept). nat_lt x.time time) (get_or runs at []) ++ filter (λ (x : Kept). nat_le time x.time) (get_or runs at [])) where
    pub split_tuples : joined runs ≡ joined (split_at at time runs)
    split_tuples =
        joined_parts runs at l
        ∙ ap (λ r. joined (take at runs) ++ (r ++ joined (drop (suc at) runs))) whole
        ∙ ap (λ r. joined (take at runs) ++ r) (append_assoc front back (joined (drop (suc at) runs)))
        ∙ sym (flat_map-append (λ (run : List Kept). run) (take at runs) (front ∷ back ∷ drop (suc at) runs))

    pub split_hold : AreSlices runs → 0 < length front → 0 < length back → AreSlices (split_at at time runs)
    split_hold h m n = record {
      ordered = split_order (take at runs) run front back (drop (suc at) runs) time (subst AreInOrder (in_parts runs at l) h.ordered) whole m n (filter_has (λ (x : Kept). nat_lt x.time time) (λ x. x.time < time) (λ x e. ltb-true x.time time e) run) (filter_has (λ (x : Kept). nat_le time x.time) (λ x. time ≤ x.time) (λ x e. leb-true time x.time e) run);
      in_time = subst (All (λ (x : Kept). x.time ≤ TIME_MAX)) split_tuples h.in_time;
      values = subst (All (λ (x : Kept). FitsSigned w64 x.value)) split_tuples h.values;
      counted = omega (arith, ap length split_tuples, h.counted);
    }
      where
        filter_has : (p : Kept → Bool) (P : Kept → Type 0) → ((x : Kept) → p x ≡ true → P x) → (xs : List Kept) → All P (filter p xs)
        filter_has p P f xs = All-weaker (λ x. p x ≡ true) P f (filter p xs) (filter_passes p xs)

  pub split_shown : (bounds : List Slice) (f b : Slice) → bounds ≡ map slice_of runs → f ≡ slice_of (filter (λ (x : Kept). nat_lt x.time time) (get_or runs at [])) → b ≡ slice_of (filter (λ (x : Kept). nat_le time x.time) (get_or runs at [])) → take at bounds ++ f ∷ b ∷ drop (suc at) bounds ≡ map slice_of (split_at at time runs)
  split_shown bounds f b e f_is b_is =
      (λ i. take at (e i) ++ f_is i ∷ b_is i ∷ drop (suc at) (e i))
      ∙ (λ i. take-map slice_of at runs i ++ slice_of front ∷ slice_of back ∷ drop-map slice_of (suc at) runs i)
      ∙ sym (map-append slice_of (take at runs) (front ∷ back ∷ drop (suc at) runs))

-- two in the place of one
pub two_for_one : (bounds : List Slice) (at : ℕ) (f b : Slice) → at < length bounds → insert (set bounds at f) (at + 1) b ≡ take at bounds ++ f ∷ b ∷ drop (suc at) bounds
two_for_one [] at f b l = absurd (omega arith)
two_for_one (s ∷ ss) zero f b l = refl
two_for_one (s ∷ ss) (suc at) f b l = ap (λ n. insert (s ∷ set ss at f) n b) (let e : suc at + 1 ≡ suc (at + 1) = omega arith in e) ∙ ap (λ r. s ∷ r) (two_for_one ss at f b (omega arith))
