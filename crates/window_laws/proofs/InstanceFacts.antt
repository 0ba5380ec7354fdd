-- The instances of a window: their bounds don't fall, each selects the tuples within its span, and only times count.
use Rattle.std.proofs.Common.{◌≡◌, ◌∙◌, ℕ, zero, suc, ◌+◌, ◌-◌, ◌*◌, ◌/◌, ◌<◌, ◌≤◌, Bool, true, false, cond, List, [], ◌∷◌, ◌++◌, length, get_or, take, drop, ap, sym, refl, subst, arith, inl, inr}
use Rattle.std.specs.Prelude.{◌⊎◌, ◌&&◌, nat_le, nat_lt, pos}
use Rattle.std.specs.List.{All, Contains, filter, flat_map, range_with_len}
use Rattle.std.specs.List.Sorted.{IsNonDecreasingBy, IsStrictlySortedBy}
use Rattle.std.specs.Ordering.{nat_cmp}
use Rattle.std.proofs.lemmas.Bool.{leb-true, le-leb, lt-ltb, lt-leb, le-ltb, and_from, and_left, and_right, cases_lt}
use Rattle.std.proofs.lemmas.Grind.{flat_map-append}
use Rattle.std.proofs.lemmas.List.{append-nil, get_or-drop, get_or-take, length-drop, length-take}
use Rattle.std.proofs.lemmas.List.Elements.{All-filter, All-append, All-cons, All-nil, All-head, All-tail, All-weaker, filter-append}
use Rattle.std.proofs.lemmas.List.Kept.{IsNonDecreasingBy-filter}
use Rattle.std.proofs.lemmas.Map.Keys.{sorted_tail}
use Rattle.stream_base.specs.declared.limits.TheConstants.{FINAL}
use Rattle.stream_base.specs.declared.kept.Kept.{Kept}
use Rattle.stream_base.specs.Laws.{TimesDoNotFall}
use Rattle.stream_base.specs.Model.Journal.{rising}
use Rattle.stream_base.specs.Model.Windows.{Instance, between_times, counted, first_time, interval, is_complete, is_selecting, is_within, last_time, pieces_of, ranks, session, sessions, spans, starts_of, stretches, within}
use Rattle.stream_base.proofs.Distinct.{All_from_members, lt_from_less}
use Rattle.stream_base.proofs.Members.{range_members}
use Rattle.stream_base.proofs.Pieces.{pieces_joined}
use Rattle.stream_base.proofs.Rising.{below_tail, nat_rising_is_sorted, Contains-head, Contains-tail}
use Rattle.stream_base.proofs.Spans.{starts_of_is_sorted}
use Rattle.std.proofs.lemmas.Cmp.{nat_cmp_total}
use Rattle.std.proofs.lemmas.Nat.{div-add-mod'}
use Rattle.window_laws.specs.Instances.{completed, incomplete}
use Rattle.slice_lists.specs.Runs.{AreParted, IsRun}
use Rattle.stream_base.proofs.Filters.{filter_all, filter_none}
use Rattle.slice_lists.proofs.Order.{All-map_of, All-split, IsApart, IsNear, amid, ends_rise, nd_cons, nd_head, nd_map, nd_nil, nd_sorted, nd_tail, pieces_in_order, run_spans, runs_are_runs, runs_before, runs_behind}

-- ---- bounds don't fall
pub spans_bounds : (length slide : ℕ) (kept : List Kept) → IsNonDecreasingBy (λ (i : Instance). i.bound) (spans length slide kept)
spans_bounds length slide kept =
    nd_map (λ (i : Instance). i.bound) (λ low. interval low (low + length) kept) (starts_of length slide kept)
    (nd_sorted (λ low. low + length) (λ a b l. omega arith) (starts_of length slide kept) (starts_of_is_sorted length slide kept))

-- two times of one session, and of successive ones
abbrev pub gap_cut : ℕ → ℕ → ℕ → Bool
gap_cut gap a b = nat_le gap (b - a)

pub session_near : (gap a b : ℕ) → IsNear (gap_cut gap) a b → a ≤ b
session_near gap a b h = h.0

pub session_far : (gap a b : ℕ) → 1 ≤ gap → IsApart (gap_cut gap) a b → a + gap ≤ b
session_far gap a b some h = let l : gap ≤ b - a = leb-true gap (b - a) h.1 in omega (arith, h.0)

pub session_runs : (gap : ℕ) (kept : List Kept) → TimesDoNotFall kept → AreParted (IsNear (gap_cut gap)) (IsApart (gap_cut gap)) (pieces_of (λ x y. nat_le gap (y.time - x.time)) kept)
session_runs gap kept h = pieces_in_order (gap_cut gap) kept h

pub sessions_bounds : (gap : ℕ) (kept : List Kept) → 1 ≤ gap → TimesDoNotFall kept → IsNonDecreasingBy (λ (i : Instance). i.bound) (sessions gap kept)
sessions_bounds gap kept some h =
    nd_map (λ (i : Instance). i.bound) (session gap) (pieces_of (λ x y. nat_le gap (y.time - x.time)) kept)
    (more (pieces_of (λ x y. nat_le gap (y.time - x.time)) kept) (ends_rise (IsNear (gap_cut gap)) (IsApart (gap_cut gap)) gap (session_near gap) (λ a b. session_far gap a b some) (pieces_of (λ x y. nat_le gap (y.time - x.time)) kept) (session_runs gap kept h)))
  where
    more : (runs : List (List Kept)) → IsNonDecreasingBy last_time runs → IsNonDecreasingBy (λ run. last_time run + gap) runs
    more runs n i j d le l = omega (arith, n i j d le l)

-- the intervals between times that rise
pub between_ends : (times : List ℕ) (kept : List Kept) → IsStrictlySortedBy nat_cmp times → All (λ (i : Instance). (i.low < i.high) × (i.bound ≡ i.high) × (i.chosen ≡ within i.low i.high kept) × Contains times i.low × Contains times i.high) (between_times times kept)
between_ends [] kept s = All-nil _
between_ends (a ∷ []) kept s = All-nil _
between_ends (a ∷ b ∷ times) kept s =
    All-cons (λ (i : Instance). (i.low < i.high) × (i.bound ≡ i.high) × (i.chosen ≡ within i.low i.high kept) × Contains (a ∷ b ∷ times) i.low × Contains (a ∷ b ∷ times) i.high) (interval a b kept) (between_times (b ∷ times) kept)
    (lt_from_less a b (below_tail nat_cmp_total a (b ∷ times) s b (Contains-head b times)), refl, refl, Contains-head a (b ∷ times), Contains-tail a (b ∷ times) b (Contains-head b times))
    (All-weaker (λ (i : Instance). (i.low < i.high) × (i.bound ≡ i.high) × (i.chosen ≡ within i.low i.high kept) × Contains (b ∷ times) i.low × Contains (b ∷ times) i.high) (λ i. (i.low < i.high) × (i.bound ≡ i.high) × (i.chosen ≡ within i.low i.high kept) × Contains (a ∷ b ∷ times) i.low × Contains (a ∷ b ∷ times) i.high)
    (λ i h. (h.0, h.1, h.2, Contains-tail a (b ∷ times) i.low h.3, Contains-tail a (b ∷ times) i.high h.4)) (between_times (b ∷ times) kept) (between_ends (b ∷ times) kept (sorted_tail nat_cmp a (b ∷ times) s)))

between_low : (a : ℕ) (times : List ℕ) (kept : List Kept) → IsStrictlySortedBy nat_cmp (a ∷ times) → All (λ (i : Instance). a ≤ i.low) (between_times (a ∷ times) kept)
between_low a [] kept s = All-nil (λ (i : Instance). a ≤ i.low)
between_low a (b ∷ times) kept s =
    let l : a < b = lt_from_less a b (below_tail nat_cmp_total a (b ∷ times) s b (Contains-head b times)) in
    All-cons (λ (i : Instance). a ≤ i.low) (interval a b kept) (between_times (b ∷ times) kept) (omega arith)
    (All-weaker (λ (i : Instance). b ≤ i.low) (λ i. a ≤ i.low) (λ i h. omega arith) (between_times (b ∷ times) kept) (between_low b times kept (sorted_tail nat_cmp a (b ∷ times) s)))

between_bounds : (times : List ℕ) (kept : List Kept) → IsStrictlySortedBy nat_cmp times → IsNonDecreasingBy (λ (i : Instance). i.bound) (between_times times kept)
between_bounds [] kept s = nd_nil (λ (i : Instance). i.bound)
between_bounds (a ∷ []) kept s = nd_nil (λ (i : Instance). i.bound)
between_bounds (a ∷ b ∷ times) kept s =
    nd_cons (λ (i : Instance). i.bound) (interval a b kept) (between_times (b ∷ times) kept)
    (λ k d l. let t : IsStrictlySortedBy nat_cmp (b ∷ times) = sorted_tail nat_cmp a (b ∷ times) s in
    let e = between_ends (b ∷ times) kept t k d l in
    omega (arith, e.0, e.1, between_low b times kept t k d l))
    (between_bounds (b ∷ times) kept (sorted_tail nat_cmp a (b ∷ times) s))

pub stretches_bounds : (marks : List ℕ) (kept : List Kept) → IsNonDecreasingBy (λ (i : Instance). i.bound) (stretches marks kept)
stretches_bounds marks kept =
    IsNonDecreasingBy-filter (λ (i : Instance). i.bound) is_selecting (between_times (rising nat_cmp (0 ∷ marks ++ FINAL ∷ [])) kept)
    (between_bounds (rising nat_cmp (0 ∷ marks ++ FINAL ∷ [])) kept (nat_rising_is_sorted (0 ∷ marks ++ FINAL ∷ [])))

-- the last time is that of the last tuple
pub last_time_at : (xs : List Kept) (d : Kept) → 1 ≤ length xs → last_time xs ≡ (get_or xs (length xs - 1) d).time
last_time_at [] d l = absurd (omega arith)
last_time_at (x ∷ []) d l = refl
last_time_at (x ∷ y ∷ ys) d l =
    last_time_at (y ∷ ys) d (omega arith) ∙ (let e : length (x ∷ y ∷ ys) - 1 ≡ suc (length (y ∷ ys) - 1) = omega arith in ap (λ n. (get_or (x ∷ y ∷ ys) n d).time) (sym e))

times_mono : (a b c : ℕ) → a ≤ b → a * c ≤ b * c
times_mono a b c h = grind arith

pub in_counts : (i count n : ℕ) → i < n / count → (i + 1) * count ≤ n
in_counts i count n h = omega (arith, times_mono (i + 1) (n / count) count (omega arith), div-add-mod' n count)

-- the bound of a run of so many tuples is the time of its last
pub ranks_bound : (count : ℕ) (kept : List Kept) (i : ℕ) (d : Kept) → 1 ≤ count → (i + 1) * count ≤ length kept → (ranks count kept i).bound ≡ (get_or kept ((i + 1) * count - 1) d).time
ranks_bound count kept i d some h =
    let run = take count (drop (i * count) kept) in
    let step : (i + 1) * count ≡ i * count + count = grind arith in
    let l : length run ≡ count = simp (length-take, length-drop) (omega (arith, step, h)) in
    let e : length run - 1 ≡ count - 1 = omega arith in
    let f : i * count + (count - 1) ≡ (i + 1) * count - 1 = omega (arith, step) in
    last_time_at run d (omega arith)
    ∙ ap (λ n. (get_or run n d).time) e
    ∙ ap (λ (x : Kept). x.time) (get_or-take count (drop (i * count) kept) (count - 1) d (omega arith) ∙ get_or-drop (i * count) kept (count - 1) d)
    ∙ ap (λ n. (get_or kept n d).time) f

pub counted_bounds : (count : ℕ) (kept : List Kept) → 1 ≤ count → TimesDoNotFall kept → IsNonDecreasingBy (λ (i : Instance). i.bound) (counted count kept)
counted_bounds count kept some h = nd_map (λ (i : Instance). i.bound) (ranks count kept) (range_with_len 0 (length kept / count)) (along 0 (length kept / count) (omega arith))
  where
    above : (i j : ℕ) → i ≤ j → j < length kept / count → (ranks count kept i).bound ≤ (ranks count kept j).bound
    above i j le l =
        let x : Kept = get_or kept 0 (record { position = 0; time = 0; value = pos 0 }) in
        let m : (j + 1) * count ≤ length kept = in_counts j count (length kept) l in
        let s : (i + 1) * count ≤ (j + 1) * count = times_mono (i + 1) (j + 1) count (omega arith) in
        let p : 1 * count ≤ (j + 1) * count = times_mono 1 (j + 1) count (omega arith) in
        let g : (get_or kept ((i + 1) * count - 1) x).time ≤ (get_or kept ((j + 1) * count - 1) x).time = h ((i + 1) * count - 1) ((j + 1) * count - 1) x (omega arith) (omega arith) in
        omega (arith, ranks_bound count kept i x some (omega arith), ranks_bound count kept j x some m)

    along : (a n : ℕ) → a + n ≤ length kept / count → IsNonDecreasingBy (λ i. (ranks count kept i).bound) (range_with_len a n)
    along a zero l = nd_nil (λ i. (ranks count kept i).bound)
    along a (suc n) l =
        nd_cons (λ i. (ranks count kept i).bound) a (range_with_len (a + 1) n)
        (All_from_members (λ j. (ranks count kept a).bound ≤ (ranks count kept j).bound) (range_with_len (a + 1) n) (λ j c. let m : (a + 1 ≤ j) × (j < a + 1 + n) = range_members (a + 1) n j c in above a j (omega (arith, m.0)) (omega (arith, m.1))))
        (along (a + 1) n (omega arith))

-- ---- an instance selects the tuples within its span
pub All-joined : (P : Kept → Type 0) (runs : List (List Kept)) → All (All P) runs → All P (flat_map (λ run. run) runs)
All-joined P [] a = All-nil P
All-joined P (run ∷ runs) a = All-append P run (flat_map (λ run. run) runs) (All-head (All P) run runs a) (All-joined P runs (All-tail (All P) run runs a))

pub inside_span : (low high : ℕ) (x : Kept) → low ≤ x.time → x.time < high → is_within low high x ≡ true
inside_span low high x l h = and_from (nat_le low x.time) (nat_lt x.time high) (le-leb low x.time l) (lt-ltb x.time high h)

pub below_span : (low high : ℕ) (x : Kept) → x.time < low → is_within low high x ≡ false
below_span low high x l = and_left (nat_le low x.time) (nat_lt x.time high) (lt-leb low x.time l)

pub above_span : (low high : ℕ) (x : Kept) → high ≤ x.time → is_within low high x ≡ false
above_span low high x h = and_right (nat_le low x.time) (nat_lt x.time high) (le-ltb x.time high h)

-- a run in the middle of others is what lies within its span and the gap
pub run_within : (gap : ℕ) (front : List (List Kept)) (run : List Kept) (back : List (List Kept)) → 1 ≤ gap → AreParted (IsNear (gap_cut gap)) (IsApart (gap_cut gap)) (front ++ run ∷ back) → within (first_time run) (last_time run + gap) (flat_map (λ r. r) (front ++ run ∷ back)) ≡ run
run_within gap front run back some a =
    ap (within low high) (flat_map-append (λ r. r) front (run ∷ back))
    ∙ filter-append (is_within low high) (flat_map (λ r. r) front) (run ++ flat_map (λ r. r) back)
    ∙ (λ i. in_front i ++ filter-append (is_within low high) run (flat_map (λ r. r) back) i)
    ∙ (λ i. inside i ++ behind i)
    ∙ append-nil run
  where
    low : ℕ
    low = first_time run

    high : ℕ
    high = last_time run + gap

    far : (a b : ℕ) → IsApart (gap_cut gap) a b → a + gap ≤ b
    far a b = session_far gap a b some

    all_runs : All (IsRun (IsNear (gap_cut gap))) (front ++ run ∷ back)
    all_runs = runs_are_runs (IsNear (gap_cut gap)) (IsApart (gap_cut gap)) gap (session_near gap) far (front ++ run ∷ back) a

    here : All (IsRun (IsNear (gap_cut gap))) (run ∷ back)
    here = (All-split (IsRun (IsNear (gap_cut gap))) front (run ∷ back) all_runs).1

    tail : (front : List (List Kept)) → AreParted (IsNear (gap_cut gap)) (IsApart (gap_cut gap)) (front ++ run ∷ back) → AreParted (IsNear (gap_cut gap)) (IsApart (gap_cut gap)) (run ∷ back)
    tail [] a = a
    tail (r ∷ front) a = tail front a.2

    in_front : filter (is_within (first_time run) (last_time run + gap)) (flat_map (λ r. r) front) ≡ []
    in_front =
        filter_none (is_within (first_time run) (last_time run + gap)) (flat_map (λ r. r) front)
        (All-joined (λ x. is_within (first_time run) (last_time run + gap) x ≡ false) front
        (λ k d l. let b = runs_before (IsNear (gap_cut gap)) (IsApart (gap_cut gap)) gap (session_near gap) far front run back a k d l in
        let r = (run_spans (IsNear (gap_cut gap)) (IsApart (gap_cut gap)) gap (session_near gap) far (get_or front k d) ((All-split (IsRun (IsNear (gap_cut gap))) front (run ∷ back) all_runs).0 k d l)).0 in
        λ j e m. below_span (first_time run) (last_time run + gap) (get_or (get_or front k d) j e) (omega (arith, b.0, (r j e m).1))))

    inside : filter (is_within (first_time run) (last_time run + gap)) run ≡ run
    inside =
        filter_all (is_within (first_time run) (last_time run + gap)) run
        (All-weaker (λ (x : Kept). (first_time run ≤ x.time) × (x.time ≤ last_time run)) (λ x. is_within (first_time run) (last_time run + gap) x ≡ true) (λ x h. inside_span (first_time run) (last_time run + gap) x h.0 (omega (arith, h.1))) run
        (run_spans (IsNear (gap_cut gap)) (IsApart (gap_cut gap)) gap (session_near gap) far run (All-head (IsRun (IsNear (gap_cut gap))) run back here)).0)

    behind : filter (is_within (first_time run) (last_time run + gap)) (flat_map (λ r. r) back) ≡ []
    behind =
        filter_none (is_within (first_time run) (last_time run + gap)) (flat_map (λ r. r) back)
        (All-joined (λ x. is_within (first_time run) (last_time run + gap) x ≡ false) back
        (λ k d l. let b = runs_behind (IsNear (gap_cut gap)) (IsApart (gap_cut gap)) gap (session_near gap) far run back (tail front a) k d l in
        let r = (run_spans (IsNear (gap_cut gap)) (IsApart (gap_cut gap)) gap (session_near gap) far (get_or back k d) (All-tail (IsRun (IsNear (gap_cut gap))) run back here k d l)).0 in
        λ j e m. above_span (first_time run) (last_time run + gap) (get_or (get_or back k d) j e) (omega (arith, b.0, (r j e m).0))))

pub sessions_select : (gap : ℕ) (kept : List Kept) → 1 ≤ gap → TimesDoNotFall kept → All (λ (i : Instance). i.chosen ≡ within i.low i.high kept) (sessions gap kept)
sessions_select gap kept some h =
    All-map_of (λ (i : Instance). i.chosen ≡ within i.low i.high kept) (session gap) runs
    (All_from_members (λ run. run ≡ within (first_time run) (last_time run + gap) kept) runs
    (λ run c. let m = amid runs run c in
    sym (run_within gap m.front run m.back some (subst (AreParted (IsNear (gap_cut gap)) (IsApart (gap_cut gap))) m.is (session_runs gap kept h)))
    ∙ (λ i. within (first_time run) (last_time run + gap) (flat_map (λ r. r) (sym m.is i)))
    ∙ ap (within (first_time run) (last_time run + gap)) (pieces_joined (λ x y. nat_le gap (y.time - x.time)) kept)))
  where
    runs : List (List Kept)
    runs = pieces_of (λ x y. nat_le gap (y.time - x.time)) kept

-- ---- what stands comes first
pub split_at_water : (water : ℕ) (is : List Instance) → IsNonDecreasingBy (λ (i : Instance). i.bound) is → is ≡ filter (is_complete water) is ++ incomplete water is
split_at_water water [] h = refl
split_at_water water (x ∷ is) h = by (cases_lt water x.bound) (split_at_water water is (nd_tail (λ (i : Instance). i.bound) x is h))
  where
    by : (water < x.bound) ⊎ (x.bound ≤ water) → is ≡ filter (is_complete water) is ++ incomplete water is → x ∷ is ≡ cond (nat_le x.bound water) (x ∷ filter (is_complete water) is) (filter (is_complete water) is) ++ cond (nat_lt water x.bound) (x ∷ incomplete water is) (incomplete water is)
    by (inl l) later =
        let above : All (λ (i : Instance). water < i.bound) is = All-weaker (λ (i : Instance). x.bound ≤ i.bound) (λ i. water < i.bound) (λ i m. omega arith) is (nd_head (λ (i : Instance). i.bound) x is h) in
        let none : filter (is_complete water) is ≡ [] = filter_none (is_complete water) is (All-weaker (λ (i : Instance). water < i.bound) (λ i. is_complete water i ≡ false) (λ i m. lt-leb i.bound water m) is above) in
        let all : incomplete water is ≡ is = filter_all (λ (i : Instance). nat_lt water i.bound) is (All-weaker (λ (i : Instance). water < i.bound) (λ i. nat_lt water i.bound ≡ true) (λ i m. lt-ltb water i.bound m) is above) in
        sym
        ((λ j. cond (lt-leb x.bound water l j) (x ∷ none j) (none j) ++ cond (lt-ltb water x.bound l j) (x ∷ all j) (all j)))
    by (inr l) later =
        ap (λ k. x ∷ k) later
        ∙ sym (λ j. cond (le-leb x.bound water l j) (x ∷ filter (is_complete water) is) (filter (is_complete water) is) ++ cond (le-ltb water x.bound l j) (x ∷ incomplete water is) (incomplete water is))

pub moved_on : (old new : ℕ) (is : List Instance) → old ≤ new → IsNonDecreasingBy (λ (i : Instance). i.bound) is → filter (is_complete new) is ≡ filter (is_complete old) is ++ completed old new is
moved_on old new [] le h = refl
moved_on old new (x ∷ is) le h = by (cases_lt old x.bound) (moved_on old new is le (nd_tail (λ (i : Instance). i.bound) x is h))
  where
    above : old < x.bound → All (λ (i : Instance). old < i.bound) is
    above l = All-weaker (λ (i : Instance). x.bound ≤ i.bound) (λ i. old < i.bound) (λ i m. omega arith) is (nd_head (λ (i : Instance). i.bound) x is h)

    none : old < x.bound → filter (is_complete old) (x ∷ is) ≡ []
    none l = filter_none (is_complete old) (x ∷ is) (All-cons (λ i. is_complete old i ≡ false) x is (lt-leb x.bound old l) (All-weaker (λ (i : Instance). old < i.bound) (λ i. is_complete old i ≡ false) (λ i m. lt-leb i.bound old m) is (above l)))

    alike : (ys : List Instance) → All (λ (i : Instance). old < i.bound) ys → filter (is_complete new) ys ≡ completed old new ys
    alike [] a = refl
    alike (y ∷ ys) a =
        let l : nat_lt old y.bound ≡ true = lt-ltb old y.bound (All-head (λ (i : Instance). old < i.bound) y ys a) in
        let rest : filter (is_complete new) ys ≡ completed old new ys = alike ys (All-tail (λ (i : Instance). old < i.bound) y ys a) in
        (λ i. cond (nat_le y.bound new) (y ∷ rest i) (rest i)) ∙ ap (λ b. cond (b && nat_le y.bound new) (y ∷ completed old new ys) (completed old new ys)) (sym l)

    by : (old < x.bound) ⊎ (x.bound ≤ old) → filter (is_complete new) is ≡ filter (is_complete old) is ++ completed old new is → filter (is_complete new) (x ∷ is) ≡ filter (is_complete old) (x ∷ is) ++ completed old new (x ∷ is)
    by (inl l) later =
        alike (x ∷ is) (All-cons (λ (i : Instance). old < i.bound) x is l (above l))
        ∙ (let back : [] ≡ filter (is_complete old) (x ∷ is) = sym (none l) in ap (λ k. k ++ completed old new (x ∷ is)) back)
    by (inr l) later =
        ap (λ b. cond b (x ∷ filter (is_complete new) is) (filter (is_complete new) is)) (le-leb x.bound new (omega arith))
        ∙ ap (λ k. x ∷ k) later
        ∙ sym (λ j. cond (le-leb x.bound old l j) (x ∷ filter (is_complete old) is) (filter (is_complete old) is) ++ cond (le-ltb old x.bound l j && nat_le x.bound new) (x ∷ completed old new is) (completed old new is))

-- an interval selects what lies within it
pub spans_hold : (length slide : ℕ) (kept : List Kept) → All (λ (i : Instance). i.chosen ≡ within i.low i.high kept) (spans length slide kept)
spans_hold length slide kept = All-map_of (λ (i : Instance). i.chosen ≡ within i.low i.high kept) (λ low. interval low (low + length) kept) (starts_of length slide kept) (λ k d l. refl)

pub stretches_hold : (marks : List ℕ) (kept : List Kept) → All (λ (i : Instance). i.chosen ≡ within i.low i.high kept) (stretches marks kept)
stretches_hold marks kept =
    All-filter is_selecting (λ (i : Instance). i.chosen ≡ within i.low i.high kept) (between_times (rising nat_cmp (0 ∷ marks ++ FINAL ∷ [])) kept)
    (All-weaker (λ (i : Instance). (i.low < i.high) × (i.bound ≡ i.high) × (i.chosen ≡ within i.low i.high kept) × Contains (rising nat_cmp (0 ∷ marks ++ FINAL ∷ [])) i.low × Contains (rising nat_cmp (0 ∷ marks ++ FINAL ∷ [])) i.high) (λ i. i.chosen ≡ within i.low i.high kept) (λ i h. h.2) (between_times (rising nat_cmp (0 ∷ marks ++ FINAL ∷ [])) kept)
    (between_ends (rising nat_cmp (0 ∷ marks ++ FINAL ∷ [])) kept (nat_rising_is_sorted (0 ∷ marks ++ FINAL ∷ []))))

-- its bound is its end, and so is that of a session
pub span_bounds_are_ends : (length slide : ℕ) (kept : List Kept) → All (λ (i : Instance). i.bound ≡ i.high) (spans length slide kept)
span_bounds_are_ends length slide kept = All-map_of (λ (i : Instance). i.bound ≡ i.high) (λ low. interval low (low + length) kept) (starts_of length slide kept) (λ k d l. refl)

pub stretch_bounds_are_ends : (marks : List ℕ) (kept : List Kept) → All (λ (i : Instance). i.bound ≡ i.high) (stretches marks kept)
stretch_bounds_are_ends marks kept =
    All-filter is_selecting (λ (i : Instance). i.bound ≡ i.high) (between_times (rising nat_cmp (0 ∷ marks ++ FINAL ∷ [])) kept)
    (All-weaker (λ (i : Instance). (i.low < i.high) × (i.bound ≡ i.high) × (i.chosen ≡ within i.low i.high kept) × Contains (rising nat_cmp (0 ∷ marks ++ FINAL ∷ [])) i.low × Contains (rising nat_cmp (0 ∷ marks ++ FINAL ∷ [])) i.high) (λ i. i.bound ≡ i.high) (λ i h. h.1) (between_times (rising nat_cmp (0 ∷ marks ++ FINAL ∷ [])) kept)
    (between_ends (rising nat_cmp (0 ∷ marks ++ FINAL ∷ [])) kept (nat_rising_is_sorted (0 ∷ marks ++ FINAL ∷ []))))

pub session_bounds_are_ends : (gap : ℕ) (kept : List Kept) → All (λ (i : Instance). i.bound ≡ i.high) (sessions gap kept)
session_bounds_are_ends gap kept = All-map_of (λ (i : Instance). i.bound ≡ i.high) (session gap) (pieces_of (λ x y. nat_le gap (y.time - x.time)) kept) (λ k d l. refl)
