-- Which slices a tuple enters, and that they are slices again with it.
use Rattle.std.proofs.Common.{◌≡◌, ◌∙◌, ℕ, zero, suc, ◌+◌, ◌-◌, ◌<◌, ◌≤◌, Bool, true, false, cond, not, List, [], ◌∷◌, ◌++◌, length, get_or, take, drop, ap, sym, refl, subst, arith, inl, inr, ⊎_elim, drop-cons}
use Rattle.std.specs.Prelude.{◌⊎◌, ◌||◌, ◌&&◌, nat_lt, nat_le}
use Rattle.std.specs.List.{All, filter, list_any}
use Rattle.std.proofs.lemmas.Bool.{lt-ltb, le-ltb, cases_lt, cases_eq, false≢true}
use Rattle.std.proofs.lemmas.Bool.Decides.{nat_tests}
use Rattle.std.proofs.lemmas.List.{append-nil, drop-drop, length-drop, length-take, get_or-drop, get_or-take, get_or_default, take-append-drop}
use Rattle.std.proofs.lemmas.List.Elements.{All-head, All-tail, filter-append}
use Rattle.stream_base.specs.declared.def.Def.{Def}
use Rattle.stream_base.specs.declared.kept.Kept.{Kept}
use Rattle.stream_base.specs.Kinds.{IsKindWithin, cuts_between}
use Rattle.stream_base.specs.Model.Cuts.{has_cut}
use Rattle.stream_base.specs.Model.Windows.{first_time, last_time}
use Rattle.stream_base.proofs.KindFacts.{no_cut_at_once}
use Rattle.slice_lists.specs.Runs.{AreInOrder, AreParted, ArePartFrom, AreRuns, IsPartFrom}
use Rattle.slice_lists.proofs.MarkRuns.{earlier_cut, later_cut}
use Rattle.stream_base.proofs.Filters.{filter_all, filter_none}
use Rattle.stream_base.specs.Places.{IsPlaceOf}
use Rattle.slice_lists.proofs.RunEdits.{added, entered, extended, fronted, merged}
use Rattle.slice_lists.specs.Touched.{is_near}
use Rattle.slice_lists.specs.Sides.{IsApartBefore, IsApartBehind, IsFirstEntered, IsLastEntered, IsNearBefore, IsNearBehind}
use Rattle.slice_lists.specs.Slices.{entered_at, slices_between}
use Rattle.slice_lists.proofs.SliceFacts.{entered_none, entered_one, entered_two, put_at_end, put_at_front, put_between, run_of}
use Rattle.slice_lists.proofs.SliceOrder.{IsApart, IsNear, first_below_last}
use Rattle.slice_lists.proofs.SliceParts.{in_parts}

-- ---- what stands at the sides of a place
module _ (R : ℕ → ℕ → Type 0) (x : Kept) where
  part_behind : (runs : List (List Kept)) (at : ℕ) → (at < length runs → R x.time (first_time (get_or runs at []))) → IsPartFrom R (x ∷ []) (drop at runs)
  part_behind [] zero h = tt
  part_behind [] (suc at) h = tt
  part_behind (run ∷ runs) zero h = h (omega arith)
  part_behind (run ∷ runs) (suc at) h = part_behind runs at (λ l. h (omega arith))

  part_before : (runs : List (List Kept)) (at : ℕ) → at ≤ length runs → ((i : ℕ) → at ≡ suc i → R (last_time (get_or runs i [])) x.time) → ArePartFrom R (take at runs) ((x ∷ []) ∷ [])
  part_before runs zero l h = subst (λ l. ArePartFrom R l ((x ∷ []) ∷ [])) (sym (none runs)) tt
    where
      none : (runs : List (List Kept)) → take 0 runs ≡ []
      none [] = refl
      none (run ∷ runs) = refl
  part_before [] (suc at) l h = tt
  part_before (run ∷ runs) (suc zero) l h = subst (λ l. ArePartFrom R (run ∷ l) ((x ∷ []) ∷ [])) (sym (none runs)) (h zero refl)
    where
      none : (runs : List (List Kept)) → take 0 runs ≡ []
      none [] = refl
      none (run ∷ runs) = refl
  part_before (run ∷ []) (suc (suc at)) l h = absurd (omega arith)
  part_before (run ∷ next ∷ runs) (suc (suc at)) l h = part_before (next ∷ runs) (suc at) (omega arith) (λ i e. h (suc i) (ap suc e))

-- two neighbours
pub neighbours : (near apart : ℕ → ℕ → Type 0) (runs : List (List Kept)) → AreParted near apart runs → (k : ℕ) → suc k < length runs → apart (last_time (get_or runs k [])) (first_time (get_or runs (suc k) []))
neighbours near apart [] a k l = absurd (omega arith)
neighbours near apart (run ∷ []) a k l = absurd (omega arith)
neighbours near apart (run ∷ next ∷ runs) a zero l = a.1
neighbours near apart (run ∷ next ∷ runs) a (suc k) l = neighbours near apart (next ∷ runs) a.2 k (omega arith)

-- ---- edits by place, for near and apart of any kind
module _ (near apart : ℕ → ℕ → Type 0) (runs : List (List Kept)) (x : Kept) (o : AreInOrder runs) (a : AreParted near apart runs) where
  alone_at : (at : ℕ) → at ≤ length runs → ((i : ℕ) → at ≡ suc i → apart (last_time (get_or runs i [])) x.time) → (at < length runs → apart x.time (first_time (get_or runs at []))) → AreParted near apart (entered_at at at x runs)
  alone_at at l h g =
      subst (AreParted near apart) (sym (entered_none at x runs))
      (added near apart (take at runs) (drop at runs) x (subst (AreParted near apart) (sym (take-append-drop at runs)) a) (part_before apart x runs at l h) (part_behind apart x runs at g))

  module _ (at to : ℕ) (e : to ≡ at + 1) (l : at < length runs) where
    parts : AreParted near apart (take at runs ++ get_or runs at [] ∷ drop (suc at) runs)
    parts = subst (AreParted near apart) (in_parts runs at l) a

    fronted_at : ((i : ℕ) → at ≡ suc i → apart (last_time (get_or runs i [])) x.time) → x.time < first_time (get_or runs at []) → near x.time (first_time (get_or runs at [])) → AreParted near apart (entered_at at to x runs)
    fronted_at h early n =
        subst (AreParted near apart) (sym (entered_one at to x runs e l))
        (subst (λ p. AreParted near apart (take at runs ++ p ∷ drop (suc at) runs)) (sym (put_at_front (get_or runs at []) x (run_of runs at l o) early))
        (fronted near apart (take at runs) (get_or runs at []) (drop (suc at) runs) x parts (part_before apart x runs at (omega arith) h) n))

    extended_at : last_time (get_or runs at []) ≤ x.time → near (last_time (get_or runs at [])) x.time → (suc at < length runs → apart x.time (first_time (get_or runs (suc at) []))) → AreParted near apart (entered_at at to x runs)
    extended_at late n h =
        subst (AreParted near apart) (sym (entered_one at to x runs e l))
        (subst (λ q. AreParted near apart (take at runs ++ q ∷ drop (suc at) runs)) (sym (put_at_end (get_or runs at []) x (run_of runs at l o) late))
        (extended near apart (take at runs) (get_or runs at []) (drop (suc at) runs) x parts n (part_behind apart x runs (suc at) h)))

    inside_at : ((a b c : ℕ) → a ≤ b → b ≤ c → near a c → near a b) → ((a b c : ℕ) → a ≤ b → b ≤ c → near a c → near b c) → first_time (get_or runs at []) ≤ x.time → x.time < last_time (get_or runs at []) → AreParted near apart (entered_at at to x runs)
    inside_at first second low high =
        subst (AreParted near apart) (sym (entered_one at to x runs e l))
        (entered near apart first second (take at runs) (get_or runs at []) (drop (suc at) runs) x parts low high)

  merged_at : (at to : ℕ) → to ≡ at + 2 → suc at < length runs → last_time (get_or runs at []) ≤ x.time → x.time < first_time (get_or runs (suc at) []) → near (last_time (get_or runs at [])) x.time → near x.time (first_time (get_or runs (suc at) [])) → AreParted near apart (entered_at at to x runs)
  merged_at at to e l low high n m =
      let p = get_or runs at [] in
      let q = get_or runs (suc at) [] in
      let two : runs ≡ take at runs ++ p ∷ q ∷ drop (suc (suc at)) runs = in_parts runs at (omega arith) ∙ ap (λ l. take at runs ++ p ∷ l) (drop-cons runs (suc at) [] l) in
      subst (AreParted near apart) (sym (entered_two at to x runs e l))
      (subst (λ r. AreParted near apart (take at runs ++ r ∷ drop (suc (suc at)) runs)) (sym (put_between p q x (run_of runs at (omega arith) o) (run_of runs (suc at) l o) low high))
      (merged near apart (take at runs) p q (drop (suc (suc at)) runs) x (subst (AreParted near apart) two a) n m))

-- ---- there is no cut between a time and itself
none_of_marks : (marks : List ℕ) (t : ℕ) → list_any (λ m. nat_lt t m && nat_le m t) marks ≡ false
none_of_marks [] t = refl
none_of_marks (m ∷ marks) t = let e : (nat_lt t m && nat_le m t) ≡ false = grind (arith, nat_tests) in ap (λ b. b || list_any (λ m. nat_lt t m && nat_le m t) marks) e ∙ none_of_marks marks t

none_of_windows : (windows : List Def) (t : ℕ) → All (λ w. IsKindWithin w.kind) windows → list_any (λ (d : Def). cuts_between d.kind t t) windows ≡ false
none_of_windows [] t w = refl
none_of_windows (d ∷ ds) t w =
    ap (λ b. b || list_any (λ (e : Def). cuts_between e.kind t t) ds) (no_cut_at_once d.kind t (All-head (λ (e : Def). IsKindWithin e.kind) d ds w)) ∙ none_of_windows ds t (All-tail (λ (e : Def). IsKindWithin e.kind) d ds w)

cut_self : (windows : List Def) (marks : List ℕ) (t : ℕ) → All (λ w. IsKindWithin w.kind) windows → has_cut windows marks t t ≡ false
cut_self windows marks t w = ap (λ b. b || list_any (λ m. nat_lt t m && nat_le m t) marks) (none_of_windows windows t w) ∙ none_of_marks marks t

cut_is_strict : (windows : List Def) (marks : List ℕ) (a b : ℕ) → All (λ w. IsKindWithin w.kind) windows → a ≤ b → has_cut windows marks a b ≡ true → a < b
cut_is_strict windows marks a b w l h =
    ⊎_elim
    (λ e. absurd (false≢true (sym (cut_self windows marks a w) ∙ ap (has_cut windows marks a) e ∙ h)))
    (λ ne. elim (cases_lt a b) [ inl s ↦ s | inr s ↦ absurd (ne (omega arith)) ])
    (cases_eq a b)

-- where there is no cut, there is none between times that lie between
uncut : (b c : Bool) → (b ≡ true → c ≡ true) → c ≡ false → b ≡ false
uncut true c f h = absurd (false≢true (sym h ∙ f refl))
uncut false c f h = refl

-- ---- a filter that passes a stretch alone
pub stretch : {X : Type 0} (p : X → Bool) (xs : List X) (from to : ℕ) (d : X) → from ≤ to → to ≤ length xs → ((k : ℕ) → k < from → p (get_or xs k d) ≡ false) → ((k : ℕ) → from ≤ k → k < to → p (get_or xs k d) ≡ true) → ((k : ℕ) → to ≤ k → k < length xs → p (get_or xs k d) ≡ false) → filter p xs ≡ take (to - from) (drop from xs)
stretch {X = X} p xs from to d le within low mid high =
    ap (filter p) three
    ∙ filter-append p (take from xs) (take (to - from) (drop from xs) ++ drop to xs)
    ∙ ap (λ l. l ++ filter p (take (to - from) (drop from xs) ++ drop to xs)) (filter_none p (take from xs) lows)
    ∙ filter-append p (take (to - from) (drop from xs)) (drop to xs)
    ∙ (λ i. filter_all p (take (to - from) (drop from xs)) mids i ++ filter_none p (drop to xs) highs i)
    ∙ append-nil (take (to - from) (drop from xs))
  where
    three : xs ≡ take from xs ++ (take (to - from) (drop from xs) ++ drop to xs)
    three =
        sym (take-append-drop from xs)
        ∙ ap (λ l. take from xs ++ l) (sym (take-append-drop (to - from) (drop from xs)) ∙ ap (λ l. take (to - from) (drop from xs) ++ l) (drop-drop (to - from) from xs ∙ ap (λ n. drop n xs) (let e : from + (to - from) ≡ to = omega arith in e)))

    lows : All (λ x. p x ≡ false) (take from xs)
    lows k e l =
        let below : k < from = omega (arith, length-take from xs) in
        ap p (get_or-take from xs k e below ∙ get_or_default xs k e d (omega arith)) ∙ low k below

    mids : All (λ x. p x ≡ true) (take (to - from) (drop from xs))
    mids k e l =
        let below : k < to - from = omega (arith, length-take (to - from) (drop from xs)) in
        ap p (get_or-take (to - from) (drop from xs) k e below ∙ get_or-drop from xs k e ∙ get_or_default xs (from + k) e d (omega arith)) ∙ mid (from + k) (omega arith) (omega arith)

    highs : All (λ x. p x ≡ false) (drop to xs)
    highs k e l =
        let inside : to + k < length xs = omega (arith, length-drop to xs) in
        ap p (get_or-drop to xs k e ∙ get_or_default xs (to + k) e d inside) ∙ high (to + k) (omega arith) inside

-- ---- which slices a time is near to
near_low : (cut : ℕ → ℕ → Bool) (t : ℕ) (run : List Kept) → first_time run ≤ t → is_near cut t run ≡ (nat_lt t (last_time run) || not (cut (last_time run) t))
near_low cut t run l = ap (λ b. cond b (not (cut t (first_time run))) (nat_lt t (last_time run) || not (cut (last_time run) t))) (le-ltb t (first_time run) l)

near_high : (cut : ℕ → ℕ → Bool) (t : ℕ) (run : List Kept) → t < first_time run → is_near cut t run ≡ not (cut t (first_time run))
near_high cut t run l = ap (λ b. cond b (not (cut t (first_time run))) (nat_lt t (last_time run) || not (cut (last_time run) t))) (lt-ltb t (first_time run) l)

-- a tuple enters the slices from one place up to another: they are those that it is near to, and all are slices again with it
pub record IsEdit (windows : List Def) (marks : List ℕ) (runs : List (List Kept)) (from to : ℕ) (x : Kept) : Type 0 where
  pub order : from ≤ to
  pub within : to ≤ length runs
  pub few : to ≤ from + 2
  pub ordered : AreInOrder (entered_at from to x runs)
  pub sliced : AreRuns (has_cut windows marks) (entered_at from to x runs)
  pub near : filter (is_near (has_cut windows marks) x.time) runs ≡ slices_between from to runs
  pub between : to ≡ from + 2 → (last_time (get_or runs from []) ≤ x.time) × (x.time < first_time (get_or runs (suc from) []))

module _ (windows : List Def) (marks : List ℕ) (runs : List (List Kept)) (x : Kept) (kinds : All (λ w. IsKindWithin w.kind) windows) (o : AreInOrder runs) (a : AreRuns (has_cut windows marks) runs) where
  abbrev cut : ℕ → ℕ → Bool
  cut p q = has_cut windows marks p q

  module _ (at : ℕ) (h : IsPlaceOf first_time runs (x.time + 1) at) where
    begun : (k : ℕ) → k < at → first_time (get_or runs k []) ≤ x.time
    begun k l = let b : first_time (get_or runs k []) < x.time + 1 = h.before k [] (omega arith) l in omega arith

    to_come : (k : ℕ) → at ≤ k → k < length runs → x.time < first_time (get_or runs k [])
    to_come k l m = let b : x.time + 1 ≤ first_time (get_or runs k []) = h.behind k [] l m in omega arith

    span : (k : ℕ) → k < length runs → first_time (get_or runs k []) ≤ last_time (get_or runs k [])
    span k l = first_below_last (get_or runs k []) (run_of runs k l o)

    -- a slice further before is far
    low_far : (from : ℕ) → from ≤ at → (from ≡ at → IsApartBefore (has_cut windows marks) runs at x.time) → (k : ℕ) → k < from → is_near (has_cut windows marks) x.time (get_or runs k []) ≡ false
    low_far from le apart k l =
        let ends : (last_time (get_or runs k []) ≤ x.time) × (has_cut windows marks (last_time (get_or runs k [])) x.time ≡ true) = by (cases_lt (suc k) at) in
        near_low (has_cut windows marks) x.time (get_or runs k []) (begun k (omega arith))
        ∙ (λ i. le-ltb x.time (last_time (get_or runs k [])) ends.0 i || not (ends.1 i))
      where
        by : (suc k < at) ⊎ (at ≤ suc k) → (last_time (get_or runs k []) ≤ x.time) × (has_cut windows marks (last_time (get_or runs k [])) x.time ≡ true)
        by (inl m) =
            let inside : suc k < length runs = omega (arith, h.within) in
            let next : first_time (get_or runs (suc k) []) ≤ x.time = begun (suc k) m in
            let step : last_time (get_or runs k []) < first_time (get_or runs (suc k) []) = neighbours IsNear IsApart runs o k inside in
            (omega arith, later_cut windows marks (last_time (get_or runs k [])) (first_time (get_or runs (suc k) [])) x.time (omega arith) next (neighbours (λ p q. has_cut windows marks p q ≡ false) (λ p q. has_cut windows marks p q ≡ true) runs a k inside))
        by (inr m) = apart (omega arith) k (omega arith)

    -- and one further behind
    high_far : (to : ℕ) → at ≤ to → (to ≡ at → IsApartBehind (has_cut windows marks) runs at x.time) → (k : ℕ) → to ≤ k → k < length runs → is_near (has_cut windows marks) x.time (get_or runs k []) ≡ false
    high_far to le apart k l m =
        near_high (has_cut windows marks) x.time (get_or runs k []) (to_come k (omega arith) m) ∙ ap not (by k (cases_lt at k) l m)
      where
        by : (k : ℕ) → (at < k) ⊎ (k ≤ at) → to ≤ k → k < length runs → has_cut windows marks x.time (first_time (get_or runs k [])) ≡ true
        by zero (inl n) l m = absurd (omega arith)
        by (suc j) (inl n) l m =
            let here : x.time < first_time (get_or runs j []) = to_come j (omega arith) (omega arith) in
            let wide : first_time (get_or runs j []) ≤ last_time (get_or runs j []) = span j (omega arith) in
            let step : last_time (get_or runs j []) < first_time (get_or runs (suc j) []) = neighbours IsNear IsApart runs o j m in
            earlier_cut windows marks x.time (last_time (get_or runs j [])) (first_time (get_or runs (suc j) [])) (omega arith) (omega arith) (neighbours (λ p q. has_cut windows marks p q ≡ false) (λ p q. has_cut windows marks p q ≡ true) runs a j m)
        by k (inr n) l m =
            let same : at ≡ k = omega arith in
            subst (λ n. has_cut windows marks x.time (first_time (get_or runs n [])) ≡ true) same (apart (omega arith) (omega arith))

    -- the slice before, and the slice behind
    near_before : (i : ℕ) → i < at → (x.time < last_time (get_or runs i [])) ⊎ (has_cut windows marks (last_time (get_or runs i [])) x.time ≡ false) → is_near (has_cut windows marks) x.time (get_or runs i []) ≡ true
    near_before i l n = near_low (has_cut windows marks) x.time (get_or runs i []) (begun i l) ∙ by n
      where
        any : (b : Bool) → (b || true) ≡ true
        any true = refl
        any false = refl

        by : (x.time < last_time (get_or runs i [])) ⊎ (has_cut windows marks (last_time (get_or runs i [])) x.time ≡ false) → (nat_lt x.time (last_time (get_or runs i [])) || not (has_cut windows marks (last_time (get_or runs i [])) x.time)) ≡ true
        by (inl m) = ap (λ b. b || not (has_cut windows marks (last_time (get_or runs i [])) x.time)) (lt-ltb x.time (last_time (get_or runs i [])) m)
        by (inr m) = ap (λ b. nat_lt x.time (last_time (get_or runs i [])) || not b) m ∙ any (nat_lt x.time (last_time (get_or runs i [])))

    near_behind : (l : at < length runs) → has_cut windows marks x.time (first_time (get_or runs at [])) ≡ false → is_near (has_cut windows marks) x.time (get_or runs at []) ≡ true
    near_behind l n = near_high (has_cut windows marks) x.time (get_or runs at []) (to_come at (omega arith) l) ∙ ap not n

    -- it is near to none
    edit_none : IsApartBefore (has_cut windows marks) runs at x.time → IsApartBehind (has_cut windows marks) runs at x.time → IsEdit windows marks runs at at x
    edit_none p q = record {
      order = omega arith;
      within = h.within;
      few = omega arith;
      ordered = alone_at IsNear IsApart runs x o o at h.within (λ i e. cut_is_strict windows marks (last_time (get_or runs i [])) x.time kinds (p i e).0 (p i e).1) (λ l. to_come at (omega arith) l);
      sliced = alone_at (λ p q. has_cut windows marks p q ≡ false) (λ p q. has_cut windows marks p q ≡ true) runs x o a at h.within (λ i e. (p i e).1) q;
      near = stretch (is_near (has_cut windows marks) x.time) runs at at [] (omega arith) h.within (low_far at (omega arith) (λ e. p)) (λ k l m. absurd (omega arith)) (high_far at (omega arith) (λ e. q));
      between = λ e. absurd (omega arith);
    }

    -- to the slice behind alone
    edit_behind : IsApartBefore (has_cut windows marks) runs at x.time → IsNearBehind (has_cut windows marks) runs at x.time → IsEdit windows marks runs at (at + 1) x
    edit_behind p q =
        let early : x.time < first_time (get_or runs at []) = to_come at (omega arith) q.0 in
        record {
          order = omega arith;
          within = omega (arith, q.0);
          few = omega arith;
          ordered = fronted_at IsNear IsApart runs x o o at (at + 1) refl q.0 (λ i e. cut_is_strict windows marks (last_time (get_or runs i [])) x.time kinds (p i e).0 (p i e).1) early (omega arith);
          sliced = fronted_at (λ p q. has_cut windows marks p q ≡ false) (λ p q. has_cut windows marks p q ≡ true) runs x o a at (at + 1) refl q.0 (λ i e. (p i e).1) early q.1;
          near = stretch (is_near (has_cut windows marks) x.time) runs at (at + 1) [] (omega arith) (omega (arith, q.0)) (low_far at (omega arith) (λ e. p)) (λ k l m. subst (λ n. is_near (has_cut windows marks) x.time (get_or runs n []) ≡ true) (let s : at ≡ k = omega arith in s) (near_behind q.0 q.1)) (high_far (at + 1) (omega arith) (λ e. absurd (omega arith)));
          between = λ e. absurd (omega arith);
        }

  module _ (i : ℕ) (h : IsPlaceOf first_time runs (x.time + 1) (suc i)) (n : (x.time < last_time (get_or runs i [])) ⊎ (has_cut windows marks (last_time (get_or runs i [])) x.time ≡ false)) where
    here : i < length runs
    here = omega (arith, h.within)

    late_cut : last_time (get_or runs i []) ≤ x.time → has_cut windows marks (last_time (get_or runs i [])) x.time ≡ false
    late_cut late = elim n [ inl inside ↦ absurd (omega arith) | inr m ↦ m ]

    -- to the slice before alone
    edit_before : IsApartBehind (has_cut windows marks) runs (suc i) x.time → IsEdit windows marks runs i (suc i) x
    edit_before q =
        let one : suc i ≡ i + 1 = omega arith in
        let both : AreInOrder (entered_at i (suc i) x runs) × AreRuns (has_cut windows marks) (entered_at i (suc i) x runs) = by (cases_lt x.time (last_time (get_or runs i []))) in
        record {
          order = omega arith;
          within = h.within;
          few = omega arith;
          ordered = both.0;
          sliced = both.1;
          near = stretch (is_near (has_cut windows marks) x.time) runs i (suc i) [] (omega arith) h.within (low_far (suc i) h i (omega arith) (λ e. absurd (omega arith))) (λ k l m. subst (λ n. is_near (has_cut windows marks) x.time (get_or runs n []) ≡ true) (let s : i ≡ k = omega arith in s) (near_before (suc i) h i (omega arith) n)) (high_far (suc i) h (suc i) (omega arith) (λ e. q));
          between = λ e. absurd (omega arith);
        }
      where
        first : first_time (get_or runs i []) ≤ x.time
        first = begun (suc i) h i (omega arith)

        by : (x.time < last_time (get_or runs i [])) ⊎ (last_time (get_or runs i []) ≤ x.time) → AreInOrder (entered_at i (suc i) x runs) × AreRuns (has_cut windows marks) (entered_at i (suc i) x runs)
        by (inl inside) = (
          inside_at IsNear IsApart runs x o o i (suc i) (omega arith) here (λ a b c l r h. l) (λ a b c l r h. r) first inside,
          inside_at (λ p q. has_cut windows marks p q ≡ false) (λ p q. has_cut windows marks p q ≡ true) runs x o a i (suc i) (omega arith) here
              (λ a b c l r h. uncut (has_cut windows marks a b) (has_cut windows marks a c) (later_cut windows marks a b c l r) h)
              (λ a b c l r h. uncut (has_cut windows marks b c) (has_cut windows marks a c) (earlier_cut windows marks a b c l r) h)
              first inside,
        )
        by (inr late) = (
          extended_at IsNear IsApart runs x o o i (suc i) (omega arith) here late late (λ l. to_come (suc i) h (suc i) (omega arith) l),
          extended_at (λ p q. has_cut windows marks p q ≡ false) (λ p q. has_cut windows marks p q ≡ true) runs x o a i (suc i) (omega arith) here late (late_cut late) q,
        )

    -- to both
    edit_both : IsNearBehind (has_cut windows marks) runs (suc i) x.time → IsEdit windows marks runs i (suc i + 1) x
    edit_both q =
        let next : x.time < first_time (get_or runs (suc i) []) = to_come (suc i) h (suc i) (omega arith) q.0 in
        record {
          order = omega arith;
          within = omega (arith, q.0);
          few = omega arith;
          ordered = merged_at IsNear IsApart runs x o o i (suc i + 1) (omega arith) q.0 late next late (omega arith);
          sliced = merged_at (λ p q. has_cut windows marks p q ≡ false) (λ p q. has_cut windows marks p q ≡ true) runs x o a i (suc i + 1) (omega arith) q.0 late next (late_cut late) q.1;
          near = stretch (is_near (has_cut windows marks) x.time) runs i (suc i + 1) [] (omega arith) (omega (arith, q.0)) (low_far (suc i) h i (omega arith) (λ e. absurd (omega arith))) (λ k l m. mid k (cases_eq i k) l m) (high_far (suc i) h (suc i + 1) (omega arith) (λ e. absurd (omega arith)));
          between = λ e. (late, next);
        }
      where
        late : last_time (get_or runs i []) ≤ x.time
        late =
            elim (cases_lt x.time (last_time (get_or runs i []))) [
              | inl inside ↦ absurd (
                  let step : last_time (get_or runs i []) < first_time (get_or runs (suc i) []) = neighbours IsNear IsApart runs o i q.0 in
                  false≢true (sym q.1 ∙ earlier_cut windows marks x.time (last_time (get_or runs i [])) (first_time (get_or runs (suc i) [])) (omega arith) (omega arith) (neighbours (λ p q. has_cut windows marks p q ≡ false) (λ p q. has_cut windows marks p q ≡ true) runs a i q.0)))
              | inr l ↦ l
            ]

        mid : (k : ℕ) → (i ≡ k) ⊎ (i ≡ k → ⊥) → i ≤ k → k < suc i + 1 → is_near (has_cut windows marks) x.time (get_or runs k []) ≡ true
        mid k (inl e) l m = subst (λ n. is_near (has_cut windows marks) x.time (get_or runs n []) ≡ true) e (near_before (suc i) h i (omega arith) n)
        mid k (inr e) l m = subst (λ n. is_near (has_cut windows marks) x.time (get_or runs n []) ≡ true) (let s : suc i ≡ k = omega arith in s) (near_behind (suc i) h q.0 q.1)

  placed_edit : (f t from to : ℕ) → from ≡ f → to ≡ t → IsEdit windows marks runs f t x → IsEdit windows marks runs from to x
  placed_edit f t from to e g h = subst (λ n. IsEdit windows marks runs n to x) (sym e) (subst (λ n. IsEdit windows marks runs f n x) (sym g) h)

  pub edit : (at from to : ℕ) → IsPlaceOf first_time runs (x.time + 1) at → IsFirstEntered (has_cut windows marks) runs at x.time from → IsLastEntered (has_cut windows marks) runs at x.time to → IsEdit windows marks runs from to x
  edit at from to h (inr p) (inr q) = placed_edit at at from to p.1 q.1 (edit_none at h p.0 q.0)
  edit at from to h (inr p) (inl q) = placed_edit at (at + 1) from to p.1 q.1 (edit_behind at h p.0 q.0)
  edit zero from to h (inl p) q = absurd (omega arith)
  edit (suc i) from to h (inl p) (inr q) = placed_edit i (suc i) from to (omega (arith, p.1)) q.1 (edit_before i h (own i p.0) q.0)
    where
      own : (i : ℕ) → IsNearBefore (has_cut windows marks) runs (suc i) x.time → (x.time < last_time (get_or runs i [])) ⊎ (has_cut windows marks (last_time (get_or runs i [])) x.time ≡ false)
      own i n = subst (λ j. (x.time < last_time (get_or runs j [])) ⊎ (has_cut windows marks (last_time (get_or runs j [])) x.time ≡ false)) (let s : n.0 ≡ i = omega (arith, n.1) in s) n.2
  edit (suc i) from to h (inl p) (inl q) = placed_edit i (suc i + 1) from to (omega (arith, p.1)) q.1 (edit_both i h (own i p.0) q.0)
    where
      own : (i : ℕ) → IsNearBefore (has_cut windows marks) runs (suc i) x.time → (x.time < last_time (get_or runs i [])) ⊎ (has_cut windows marks (last_time (get_or runs i [])) x.time ≡ false)
      own i n = subst (λ j. (x.time < last_time (get_or runs j [])) ⊎ (has_cut windows marks (last_time (get_or runs j [])) x.time ≡ false)) (let s : n.0 ≡ i = omega (arith, n.1) in s) n.2
