-- The first slices leave, and the marks before the last one up to a time.
use Rattle.std.proofs.Common.{◌≡◌, ◌∙◌, ℕ, ◌+◌, ◌-◌, ◌<◌, ◌≤◌, Bool, true, false, cond, not, List, [], ◌∷◌, ◌++◌, length, get_or, take, drop, map, ap, sym, refl, subst, arith, inl, inr}
use Rattle.std.specs.Prelude.{◌⊎◌, ◌||◌, ◌&&◌, nat_le, nat_lt, FitsSigned}
use Rattle.std.specs.Int.{w64}
use Rattle.std.specs.List.{All, filter, list_any}
use Rattle.std.specs.List.Sorted.{IsStrictlyIncreasing}
use Rattle.std.proofs.lemmas.Bool.{and_from, and_left, and_right, cases_lt, false≢true, le-leb, le-ltb, leb-false, lt-leb, lt-ltb, or_parts}
use Rattle.std.proofs.lemmas.List.{get_or_default, get_or-drop, get_or-take, length-append, length-drop, length-take, take-append-drop}
use Rattle.std.proofs.lemmas.List.Concat.{flat_map-append}
use Rattle.std.proofs.lemmas.List.Elements.{All-head, All-tail, All-weaker, filter-append}
use Rattle.std.proofs.lemmas.List.Folds.{list_any_at, list_any_none}
use Rattle.stream_base.specs.declared.def.Def.{Def}
use Rattle.stream_base.specs.declared.kept.Kept.{Kept}
use Rattle.stream_base.specs.declared.limits.TheConstants.{TIME_MAX}
use Rattle.stream_base.specs.Model.Cuts.{has_cut}
use Rattle.stream_base.specs.Kinds.{cuts_between}
use Rattle.stream_base.specs.Model.Slices.{runs_of}
use Rattle.stream_base.specs.Model.Windows.{first_time, last_time}
use Rattle.stream_base.proofs.Distinct.{All_from_members}
use Rattle.stream_base.proofs.Members.{filter_map_of, filter_members}
use Rattle.slice_lists.specs.Runs.{AreInOrder, AreRuns, IsAligned, IsPartFrom, IsRun}
use Rattle.stream_base.proofs.Filters.{filter_all, filter_none}
use Rattle.stream_base.specs.Places.{IsPlaceOf}
use Rattle.slice_lists.proofs.Order.{All-split}
use Rattle.slice_lists.proofs.RunEdits.{parted}
use Rattle.slice_lists.specs.declared.slice.Slice.{Slice}
use Rattle.slice_lists.specs.Touched.{marks_left, slices_from}
use Rattle.slice_lists.specs.Slices.{AreSlices, joined, slice_of}
use Rattle.slice_lists.proofs.WithinFacts.{all_joined}
use Rattle.slice_lists.proofs.NearFacts.{stretch}
use Rattle.slice_lists.proofs.SliceFacts.{run_of}
use Rattle.slice_lists.proofs.PlaceFacts.{marks_do_not_fall}
use Rattle.slice_lists.proofs.PutFacts.{are_runs, are_sliced}
use Rattle.slice_lists.proofs.SliceParts.{part_to_end}
use Rattle.slice_lists.proofs.SliceOrder.{IsApart, IsNear, run_above_first, run_below_last}

-- ---- what is left is in order
pub order_from : (runs : List (List Kept)) (at : ℕ) → AreInOrder runs → AreInOrder (drop at runs)
order_from runs at o = (parted IsNear IsApart (take at runs) (drop at runs) (subst AreInOrder (sym (take-append-drop at runs)) o)).1

-- ---- the slices from a time on
module _ (runs : List (List Kept)) (time count : ℕ) (h : IsPlaceOf first_time runs time count) where
  pub from_place : slices_from time runs ≡ drop count runs
  from_place =
      stretch (λ run. nat_le time (first_time run)) runs count (length runs) [] h.within (omega arith)
      (λ k l. lt-leb time (first_time (get_or runs k [])) (h.before k [] (omega arith) l))
      (λ k l m. le-leb time (first_time (get_or runs k [])) (h.behind k [] l m))
      (λ k l m. absurd (omega arith))
      ∙ part_to_end runs count

  pub many_before : length (filter (λ run. nat_lt (first_time run) time) runs) ≡ count
  many_before =
      ap length (stretch (λ run. nat_lt (first_time run) time) runs 0 count [] (omega arith) h.within
      (λ k l. absurd (omega arith))
      (λ k l m. lt-ltb (first_time (get_or runs k [])) time (h.before k [] (omega arith) m))
      (λ k l m. le-ltb (first_time (get_or runs k [])) time (h.behind k [] l m)))
      ∙ omega (arith, length-take (count - 0) (drop 0 runs), length-drop 0 runs, h.within)

  module _ (o : AreInOrder runs) (a : IsAligned runs time) where
    early : All (All (λ (x : Kept). x.time < time)) (take count runs)
    early k d l =
        let below : k < count = omega (arith, length-take count runs) in
        let inside : k < length runs = omega (arith, h.within) in
        let same : get_or (take count runs) k d ≡ get_or runs k [] = get_or-take count runs k d below ∙ get_or_default runs k d [] inside in
        let begins : first_time (get_or runs k []) < time = h.before k [] (omega arith) below in
        let ends : last_time (get_or runs k []) < time = elim (a k [] inside) [ inl e ↦ e | inr e ↦ absurd (omega arith) ] in
        subst (All (λ (x : Kept). x.time < time)) (sym same)
        (All-weaker (λ (x : Kept). x.time ≤ last_time (get_or runs k [])) (λ x. x.time < time) (λ x m. omega arith) (get_or runs k []) (run_below_last (get_or runs k []) (run_of runs k inside o)))

    pub late : All (All (λ (x : Kept). time ≤ x.time)) (drop count runs)
    late k d l =
        let inside : count + k < length runs = omega (arith, length-drop count runs) in
        let same : get_or (drop count runs) k d ≡ get_or runs (count + k) [] = get_or-drop count runs k d ∙ get_or_default runs (count + k) d [] inside in
        let begins : time ≤ first_time (get_or runs (count + k) []) = h.behind (count + k) [] (omega arith) inside in
        subst (All (λ (x : Kept). time ≤ x.time)) (sym same)
        (All-weaker (λ (x : Kept). first_time (get_or runs (count + k) []) ≤ x.time) (λ x. time ≤ x.time) (λ x m. omega arith) (get_or runs (count + k) []) (run_above_first (get_or runs (count + k) []) (run_of runs (count + k) inside o)))

    joined_halves : joined runs ≡ joined (take count runs) ++ joined (drop count runs)
    joined_halves = ap joined (sym (take-append-drop count runs)) ∙ flat_map-append (λ (run : List Kept). run) (take count runs) (drop count runs)

    pub tuples_left : filter (λ x. nat_le time x.time) (joined runs) ≡ joined (drop count runs)
    tuples_left =
        ap (filter (λ (x : Kept). nat_le time x.time)) joined_halves
        ∙ filter-append (λ (x : Kept). nat_le time x.time) (joined (take count runs)) (joined (drop count runs))
        ∙ (λ i. filter_none (λ (x : Kept). nat_le time x.time) (joined (take count runs)) (All-weaker (λ (x : Kept). x.time < time) (λ x. nat_le time x.time ≡ false) (λ x l. lt-leb time x.time l) (joined (take count runs)) (all_joined (λ (x : Kept). x.time < time) (take count runs) early)) i
        ++ filter_all (λ (x : Kept). nat_le time x.time) (joined (drop count runs)) (All-weaker (λ (x : Kept). time ≤ x.time) (λ x. nat_le time x.time ≡ true) (λ x l. le-leb time x.time l) (joined (drop count runs)) (all_joined (λ (x : Kept). time ≤ x.time) (drop count runs) late)) i)

    pub bounds_left : (bounds : List Slice) → bounds ≡ map slice_of runs → filter (λ s. nat_le time s.low) bounds ≡ map slice_of (drop count runs)
    bounds_left bounds e =
        ap (filter (λ (s : Slice). nat_le time s.low)) e
        ∙ filter_map_of (λ (s : Slice). nat_le time s.low) slice_of runs
        ∙ ap (map slice_of) from_place

    pub left_hold : AreSlices runs → AreSlices (drop count runs)
    left_hold s = record {
      ordered = order_from runs count s.ordered;
      in_time = (All-split (λ (x : Kept). x.time ≤ TIME_MAX) (joined (take count runs)) (joined (drop count runs)) (subst (All (λ (x : Kept). x.time ≤ TIME_MAX)) joined_halves s.in_time)).1;
      values = (All-split (λ (x : Kept). FitsSigned w64 x.value) (joined (take count runs)) (joined (drop count runs)) (subst (All (λ (x : Kept). FitsSigned w64 x.value)) joined_halves s.values)).1;
      counted = omega (arith, ap length joined_halves, length-append (joined (take count runs)) (joined (drop count runs)), s.counted);
    }

-- ---- the marks that are left
any_of_kept : (p q : ℕ → Bool) (marks : List ℕ) → ((m : ℕ) → q m ≡ false → p m ≡ false) → list_any p (filter q marks) ≡ list_any p marks
any_of_kept p q [] f = refl
any_of_kept p q (m ∷ marks) f = by (q m) refl (any_of_kept p q marks f)
  where
    by : (b : Bool) → q m ≡ b → list_any p (filter q marks) ≡ list_any p marks → list_any p (cond b (m ∷ filter q marks) (filter q marks)) ≡ (p m || list_any p marks)
    by true e later = ap (λ c. p m || c) later
    by false e later = later ∙ ap (λ c. c || list_any p marks) (sym (f m e))

filter_by : (p q : ℕ → Bool) → ((m : ℕ) → p m ≡ q m) → (marks : List ℕ) → filter p marks ≡ filter q marks
filter_by p q f [] = refl
filter_by p q f (m ∷ marks) = λ i. cond (f m i) (m ∷ filter_by p q f marks i) (filter_by p q f marks i)

pub last_read_is : (marks : List ℕ) (count last : ℕ) → count - 1 < length marks → last ≡ get_or marks (count - 1) last → last ≡ get_or marks (count - 1) 0
last_read_is marks count last l e = e ∙ get_or_default marks (count - 1) last 0 l

module _ (marks : List ℕ) (time count : ℕ) (h : IsPlaceOf (λ m. m) marks (time + 1) count) (rising : IsStrictlyIncreasing marks) where
  -- where none is up to the time all are left
  pub none_to_leave : count ≡ 0 → marks ≡ marks_left time marks
  none_to_leave e =
      sym (filter_all (λ m. not (list_any (λ n. nat_lt m n && nat_le n time) marks)) marks
      (λ k d l. ap not (list_any_none (λ n. nat_lt (get_or marks k d) n && nat_le n time) marks
      (λ j c m. let b : time + 1 ≤ get_or marks j c = h.behind j c (omega arith) m in and_right (nat_lt (get_or marks k d) (get_or marks j c)) (nat_le (get_or marks j c) time) (lt-leb (get_or marks j c) time (omega arith))))))

  module _ (some : 0 < count) (last : ℕ) (is : last ≡ get_or marks (count - 1) 0) where
    up_to : last ≤ time
    up_to = let b : get_or marks (count - 1) 0 < time + 1 = h.before (count - 1) 0 (omega arith) (omega arith) in omega arith

    same_test : (m : ℕ) → not (list_any (λ n. nat_lt m n && nat_le n time) marks) ≡ nat_le last m
    same_test m =
        elim (cases_lt m last) [
          | inl l ↦ (
              ap not (list_any_at (λ n. nat_lt m n && nat_le n time) marks (count - 1) 0 (omega (arith, h.within)) (and_from (nat_lt m (get_or marks (count - 1) 0)) (nat_le (get_or marks (count - 1) 0) time) (lt-ltb m (get_or marks (count - 1) 0) (omega arith)) (le-leb (get_or marks (count - 1) 0) time (omega (arith, up_to)))))
              ∙ sym (lt-leb last m l))
          | inr l ↦ ap not (list_any_none (λ n. nat_lt m n && nat_le n time) marks (λ k d q. one m l k d q (cases_lt k count))) ∙ sym (le-leb last m l)
        ]
      where
        one : (m : ℕ) → last ≤ m → (k d : ℕ) → k < length marks → (k < count) ⊎ (count ≤ k) → (nat_lt m (get_or marks k d) && nat_le (get_or marks k d) time) ≡ false
        one m l k d q (inl p) =
            let rise : get_or marks k d ≤ get_or marks (count - 1) d = marks_do_not_fall marks rising k (count - 1) d (omega arith) (omega (arith, h.within)) in
            and_left (nat_lt m (get_or marks k d)) (nat_le (get_or marks k d) time) (le-ltb m (get_or marks k d) (omega (arith, rise, get_or_default marks (count - 1) d 0 (omega (arith, h.within)))))
        one m l k d q (inr p) =
            let b : time + 1 ≤ get_or marks k d = h.behind k d p q in
            and_right (nat_lt m (get_or marks k d)) (nat_le (get_or marks k d) time) (lt-leb (get_or marks k d) time (omega arith))

    pub last_left : filter (λ m. nat_le last m) marks ≡ marks_left time marks
    last_left = sym (filter_by (λ m. not (list_any (λ n. nat_lt m n && nat_le n time) marks)) (λ m. nat_le last m) same_test marks)

    pub cuts_left : (a b : ℕ) → time ≤ a → list_any (λ m. nat_lt a m && nat_le m b) (filter (λ m. nat_le last m) marks) ≡ list_any (λ m. nat_lt a m && nat_le m b) marks
    cuts_left a b l = any_of_kept (λ m. nat_lt a m && nat_le m b) (λ m. nat_le last m) marks (λ m e. and_left (nat_lt a m) (nat_le m b) (le-ltb a m (let g : m < last = leb-false last m e in omega (arith, up_to))))

-- ---- how many marks are left
pub many_left : (marks : List ℕ) (time count : ℕ) → IsPlaceOf (λ m. m) marks (time + 1) count → IsStrictlyIncreasing marks → length (marks_left time marks) ≡ length marks - (count - 1)
many_left marks time count h rising =
    elim (cases_lt 0 count) [
      | inl some ↦ some_left some
      | inr none ↦ (let e : count ≡ 0 = omega arith in omega (arith, ap length (none_to_leave marks time count h rising e)))
    ]
  where
    some_left : 0 < count → length (marks_left time marks) ≡ length marks - (count - 1)
    some_left some =
        let last = get_or marks (count - 1) 0 in
        let from = count - 1 in
        let within : from < length marks = omega (arith, h.within) in
        sym (ap length (last_left marks time count h rising some last refl))
        ∙ ap length (stretch (λ m. nat_le last m) marks from (length marks) 0 (omega arith) (omega arith)
        (λ k l. lt-leb last (get_or marks k 0) (rise k l within))
        (λ k l m. le-leb last (get_or marks k 0) (marks_do_not_fall marks rising from k 0 l m))
        (λ k l m. absurd (omega arith)))
        ∙ ap length (part_to_end marks from)
        ∙ length-drop from marks
      where
        rise : (k : ℕ) → k < count - 1 → count - 1 < length marks → get_or marks k 0 < get_or marks (count - 1) 0
        rise k l within =
            let step : get_or marks k 0 < get_or marks (k + 1) 0 = rising k (omega arith) in
            let rest : get_or marks (k + 1) 0 ≤ get_or marks (count - 1) 0 = marks_do_not_fall marks rising (k + 1) (count - 1) 0 (omega arith) within in
            omega arith

-- those that are left stay where marks leave again
pub left_twice : (time : ℕ) (marks : List ℕ) → marks_left time (marks_left time marks) ≡ marks_left time marks
left_twice time marks =
    filter_all (λ m. not (list_any (λ n. nat_lt m n && nat_le n time) (marks_left time marks))) (marks_left time marks)
    (All_from_members (λ m. not (list_any (λ n. nat_lt m n && nat_le n time) (marks_left time marks)) ≡ true) (marks_left time marks)
    (λ m c. again (list_any (λ n. nat_lt m n && nat_le n time) marks) (list_any (λ n. nat_lt m n && nat_le n time) (marks_left time marks))
    (fewer (λ n. nat_lt m n && nat_le n time) (λ m. not (list_any (λ n. nat_lt m n && nat_le n time) marks)) marks)
    (filter_members (λ m. not (list_any (λ n. nat_lt m n && nat_le n time) marks)) marks m c).1))
  where
    -- what fails of all fails of those that pass a test
    fewer : (p q : ℕ → Bool) (marks : List ℕ) → list_any p marks ≡ false → list_any p (filter q marks) ≡ false
    fewer p q [] e = refl
    fewer p q (m ∷ marks) e =
        let h = or_parts (p m) (list_any p marks) e in
        by (q m) h.0 (fewer p q marks h.1)
      where
        by : (b : Bool) → p m ≡ false → list_any p (filter q marks) ≡ false → list_any p (cond b (m ∷ filter q marks) (filter q marks)) ≡ false
        by true f later = ap (λ c. c || list_any p (filter q marks)) f ∙ later
        by false f later = later

    again : (a b : Bool) → (a ≡ false → b ≡ false) → not a ≡ true → not b ≡ true
    again true b f e = absurd (false≢true e)
    again false b f e = ap not (f refl)

-- ---- the slices that are left are those of their tuples under the marks that are left
module _ (cut other : ℕ → ℕ → Bool) (time : ℕ) (same : (a b : ℕ) → time ≤ a → cut a b ≡ other a b) where
  same_run : (run : List Kept) → All (λ (x : Kept). time ≤ x.time) run → IsRun (λ a b. cut a b ≡ false) run → IsRun (λ a b. other a b ≡ false) run
  same_run [] a r = absurd r
  same_run (x ∷ []) a r = tt
  same_run (x ∷ y ∷ ys) a r = (sym (same x.time y.time (All-head (λ (x : Kept). time ≤ x.time) x (y ∷ ys) a)) ∙ r.0, same_run (y ∷ ys) (All-tail (λ (x : Kept). time ≤ x.time) x (y ∷ ys) a) r.1)

  last_from : (run : List Kept) → All (λ (x : Kept). time ≤ x.time) run → IsRun (λ a b. cut a b ≡ false) run → time ≤ last_time run
  last_from [] a r = absurd r
  last_from (x ∷ []) a r = All-head (λ (x : Kept). time ≤ x.time) x [] a
  last_from (x ∷ y ∷ ys) a r = last_from (y ∷ ys) (All-tail (λ (x : Kept). time ≤ x.time) x (y ∷ ys) a) r.1

  same_cuts : (runs : List (List Kept)) → All (All (λ (x : Kept). time ≤ x.time)) runs → AreRuns cut runs → AreRuns other runs
  same_cuts [] a r = tt
  same_cuts (run ∷ runs) a r =
      let own : All (λ (x : Kept). time ≤ x.time) run = All-head (All (λ (x : Kept). time ≤ x.time)) run runs a in
      (same_run run own r.0, off runs r.1 (last_from run own r.0), same_cuts runs (All-tail (All (λ (x : Kept). time ≤ x.time)) run runs a) r.2)
    where
      off : (others : List (List Kept)) → IsPartFrom (λ a b. cut a b ≡ true) run others → time ≤ last_time run → IsPartFrom (λ a b. other a b ≡ true) run others
      off [] c l = tt
      off (next ∷ others) c l = sym (same (last_time run) (first_time next) l) ∙ c

pub left_sliced : (windows : List Def) (marks left : List ℕ) (runs : List (List Kept)) (time count : ℕ) → IsPlaceOf first_time runs time count → AreInOrder runs → IsAligned runs time → ((a b : ℕ) → time ≤ a → list_any (λ m. nat_lt a m && nat_le m b) left ≡ list_any (λ m. nat_lt a m && nat_le m b) marks)
    → runs ≡ runs_of windows marks (joined runs) → drop count runs ≡ runs_of windows left (joined (drop count runs))
left_sliced windows marks left runs time count h o a cuts e =
    are_sliced windows left (drop count runs)
    (same_cuts (has_cut windows marks) (has_cut windows left) time (λ p q l. ap (λ b. list_any (λ (w : Def). cuts_between w.kind p q) windows || b) (sym (cuts p q l))) (drop count runs) (late runs time count h o a)
    (parted (λ p q. has_cut windows marks p q ≡ false) (λ p q. has_cut windows marks p q ≡ true) (take count runs) (drop count runs) (subst (AreRuns (has_cut windows marks)) (sym (take-append-drop count runs)) (are_runs windows marks runs e))).1)
