-- A settled tuple that leaves takes no instance along that is still to end.
use Rattle.std.proofs.Common.{◌≡◌, ◌∙◌, ℕ, ◌+◌, ◌-◌, ◌*◌, ◌<◌, ◌≤◌, Bool, true, false, cond, List, [], ◌∷◌, ◌++◌, map, ap, sym, refl, subst, arith, inl, inr}
use Rattle.std.specs.Prelude.{◌⊎◌, ◌&&◌, nat_le, nat_lt}
use Rattle.std.specs.List.{Contains, filter}
use Rattle.std.specs.Ordering.{nat_cmp}
use Rattle.std.proofs.lemmas.Bool.{and_parts, and_right, cases_Bool, cases_lt, le-ltb, ltb-true, leb-true}
use Rattle.std.proofs.lemmas.Cmp.{nat_cmp_total}
use Rattle.std.proofs.lemmas.List.Elements.{All-contains}
use Rattle.std.proofs.lemmas.List.Kept.{IsStrictlySortedBy-filter}
use Rattle.stream_base.specs.declared.kept.Kept.{Kept}
use Rattle.stream_base.specs.declared.limits.TheConstants.{FINAL}
use Rattle.stream_base.specs.Model.Journal.{rising}
use Rattle.stream_base.specs.Model.Windows.{Instance, between_times, glued, interval, is_selecting, is_within, last_time, session, spans, starts_of, stretches, within}
use Rattle.stream_base.proofs.Members.{filter_has, filter_map_of, filter_members, map_has, map_same}
use Rattle.stream_base.proofs.Rising.{nat_rising_is_sorted, same_members_same_list, Contains-cons_cases, Contains-head, Contains-tail, none_in_nil}
use Rattle.stream_base.proofs.Spans.{starts_of_has, starts_of_is_sorted, starts_of_members}
use Rattle.window_laws.specs.Instances.{incomplete}
use Rattle.slice_lists.specs.Runs.{AreParted}
use Rattle.window_laws.proofs.InstanceFacts.{below_span, above_span, between_ends, gap_cut, inside_span, session_far, session_near}
use Rattle.window_laws.proofs.LateFacts.{some_of_member}
use Rattle.slice_lists.proofs.Order.{IsApart, IsNear, run_spans}

pub not_within : (low high : ℕ) (x : Kept) → (low ≤ x.time → x.time < high → ⊥) → is_within low high x ≡ false
not_within low high x n = elim (cases_lt x.time low) [
  | inl l ↦ below_span low high x l
  | inr l ↦ elim (cases_lt x.time high) [ inl h ↦ absurd (n l h) | inr h ↦ above_span low high x h ]
]

-- ---- tumbling and sliding
module _ (length slide : ℕ) (moves : 1 ≤ slide) (overlaps : slide ≤ length) (x : Kept) (kept : List Kept) (end : ℕ) (ends : (i : Instance) → Contains (spans length slide (x ∷ kept)) i → i.low ≤ x.time → x.time < i.high → i.high ≤ end) where
  abbrev lasting : ℕ → Bool
  lasting low = nat_lt end (low + length)

  abbrev over : List Kept → ℕ → Instance
  over tuples low = interval low (low + length) tuples

  span_not_held : (low k : ℕ) → low ≡ k * slide → end < low + length → low ≤ x.time → x.time < low + length → ⊥
  span_not_held low k e l a b =
      let c : Contains (starts_of length slide (x ∷ kept)) low = subst (Contains (starts_of length slide (x ∷ kept))) (sym e) (starts_of_has length slide moves overlaps (x ∷ kept) x k (Contains-head x kept) (omega (arith, e)) (omega (arith, e))) in
      let g : low + length ≤ end = ends (over (x ∷ kept) low) (map_has (over (x ∷ kept)) (starts_of length slide (x ∷ kept)) low c) a b in
      omega arith

  starts_leave : filter lasting (starts_of length slide (x ∷ kept)) ≡ filter lasting (starts_of length slide kept)
  starts_leave =
      same_members_same_list nat_cmp_total (filter lasting (starts_of length slide (x ∷ kept))) (filter lasting (starts_of length slide kept))
      (IsStrictlySortedBy-filter nat_cmp lasting (starts_of length slide (x ∷ kept)) (starts_of_is_sorted length slide (x ∷ kept)))
      (IsStrictlySortedBy-filter nat_cmp lasting (starts_of length slide kept) (starts_of_is_sorted length slide kept))
      there back
    where
      there : (low : ℕ) → Contains (filter lasting (starts_of length slide (x ∷ kept))) low → Contains (filter lasting (starts_of length slide kept)) low
      there low c =
          let m : Contains (starts_of length slide (x ∷ kept)) low × (nat_lt end (low + length) ≡ true) = filter_members lasting (starts_of length slide (x ∷ kept)) low c in
          let s : (k : ℕ) × (y : Kept) × Contains (x ∷ kept) y × (low ≡ k * slide) × (low ≤ y.time) × (y.time < low + length) = starts_of_members length slide moves overlaps (x ∷ kept) low m.0 in
          filter_has lasting (starts_of length slide kept) low
          (elim (Contains-cons_cases x kept s.1 s.2) [
            | inl e ↦ absurd (span_not_held low s.0 s.3 (ltb-true end (low + length) m.1) (subst (λ (z : Kept). low ≤ z.time) (sym e) s.4) (subst (λ (z : Kept). z.time < low + length) (sym e) s.5))
            | inr d ↦ subst (Contains (starts_of length slide kept)) (sym s.3) (starts_of_has length slide moves overlaps kept s.1 s.0 d (omega (arith, s.3, s.4)) (omega (arith, s.3, s.5)))
          ])
          m.1

      back : (low : ℕ) → Contains (filter lasting (starts_of length slide kept)) low → Contains (filter lasting (starts_of length slide (x ∷ kept))) low
      back low c =
          let m : Contains (starts_of length slide kept) low × (nat_lt end (low + length) ≡ true) = filter_members lasting (starts_of length slide kept) low c in
          let s : (k : ℕ) × (y : Kept) × Contains kept y × (low ≡ k * slide) × (low ≤ y.time) × (y.time < low + length) = starts_of_members length slide moves overlaps kept low m.0 in
          filter_has lasting (starts_of length slide (x ∷ kept)) low
          (subst (Contains (starts_of length slide (x ∷ kept))) (sym s.3) (starts_of_has length slide moves overlaps (x ∷ kept) s.1 s.0 (Contains-tail x kept s.1 s.2) (omega (arith, s.3, s.4)) (omega (arith, s.3, s.5))))
          m.1

  pub spans_leave : incomplete end (spans length slide (x ∷ kept)) ≡ incomplete end (spans length slide kept)
  spans_leave =
      filter_map_of (λ (i : Instance). nat_lt end i.bound) (over (x ∷ kept)) (starts_of length slide (x ∷ kept))
      ∙ ap (map (over (x ∷ kept))) starts_leave
      ∙ map_same (over (x ∷ kept)) (over kept) (filter lasting (starts_of length slide kept))
      (λ low c. let m : Contains (starts_of length slide kept) low × (nat_lt end (low + length) ≡ true) = filter_members lasting (starts_of length slide kept) low c in
      let s = starts_of_members length slide moves overlaps kept low m.0 in
      let out : is_within low (low + length) x ≡ false = not_within low (low + length) x (span_not_held low s.0 s.3 (ltb-true end (low + length) m.1)) in
      λ i. record { low = low; high = low + length; bound = low + length; chosen = cond (out i) (x ∷ within low (low + length) kept) (within low (low + length) kept) })
      ∙ sym (filter_map_of (λ (i : Instance). nat_lt end i.bound) (over kept) (starts_of length slide kept))

-- ---- between marks
between_over : (times : List ℕ) (kept other : List Kept) → between_times times other ≡ map (λ i. interval i.low i.high other) (between_times times kept)
between_over [] kept other = refl
between_over (a ∷ []) kept other = refl
between_over (a ∷ b ∷ times) kept other = ap (λ l. interval a b other ∷ l) (between_over (b ∷ times) kept other)

filter_two : {X : Type 0} (p q : X → Bool) (xs : List X) → filter q (filter p xs) ≡ filter (λ x. p x && q x) xs
filter_two p q [] = refl
filter_two {X} p q (x ∷ xs) = by (p x) (filter_two p q xs)
  where
    by : (b : Bool) → filter q (filter p xs) ≡ filter (λ x. p x && q x) xs → filter q (cond b (x ∷ filter p xs) (filter p xs)) ≡ cond (b && q x) (x ∷ filter (λ x. p x && q x) xs) (filter (λ x. p x && q x) xs)
    by true h = λ i. cond (q x) (x ∷ h i) (h i)
    by false h = h

filter_alike : (r : Instance → Bool) (f : Instance → Instance) (is : List Instance) → ((i : Instance) → Contains is i → (i ≡ f i) ⊎ ((r i ≡ false) × (r (f i) ≡ false))) → filter r is ≡ filter r (map f is)
filter_alike r f [] h = refl
filter_alike r f (i ∷ is) h = by (h i (Contains-head i is)) (filter_alike r f is (λ j c. h j (Contains-tail i is j c)))
  where
    by : (i ≡ f i) ⊎ ((r i ≡ false) × (r (f i) ≡ false)) → filter r is ≡ filter r (map f is) → cond (r i) (i ∷ filter r is) (filter r is) ≡ cond (r (f i)) (f i ∷ filter r (map f is)) (filter r (map f is))
    by (inl e) later = λ k. cond (r (e k)) (e k ∷ later k) (later k)
    by (inr e) later = ap (λ b. cond b (i ∷ filter r is) (filter r is)) e.0 ∙ later ∙ sym (ap (λ b. cond b (f i ∷ filter r (map f is)) (filter r (map f is))) e.1)

-- of an interval between marks of one list, the other list has one of the same span, where it has a tuple in it
pub stretch_of_other : (marks : List ℕ) (kept other : List Kept) (i : Instance) (z : Kept) → Contains (stretches marks kept) i → Contains other z → i.low ≤ z.time → z.time < i.high → (j : Instance) × Contains (stretches marks other) j × (j.low ≡ i.low) × (j.high ≡ i.high)
stretch_of_other marks kept other i z c d l h =
    let edges = rising nat_cmp (0 ∷ marks ++ FINAL ∷ []) in
    let m : Contains (between_times edges kept) i × (is_selecting i ≡ true) = filter_members is_selecting (between_times edges kept) i c in
    let j = interval i.low i.high other in
    let there : Contains (between_times edges other) j = subst (λ l. Contains l j) (sym (between_over edges kept other)) (map_has (λ (i : Instance). interval i.low i.high other) (between_times edges kept) i m.0) in
    (j, filter_has is_selecting (between_times edges other) j there (some_of_member (is_within i.low i.high) other z d (inside_span i.low i.high z l h)), refl, refl)

pub stretches_leave : (marks : List ℕ) (x : Kept) (kept : List Kept) (end : ℕ) → ((i : Instance) → Contains (stretches marks (x ∷ kept)) i → i.low ≤ x.time → x.time < i.high → i.high ≤ end) → incomplete end (stretches marks (x ∷ kept)) ≡ incomplete end (stretches marks kept)
stretches_leave marks x kept end ends =
    filter_two is_selecting (λ (i : Instance). nat_lt end i.bound) (between_times edges (x ∷ kept))
    ∙ filter_alike (λ i. is_selecting i && nat_lt end i.bound) (λ i. interval i.low i.high kept) (between_times edges (x ∷ kept)) each
    ∙ ap (filter (λ (i : Instance). is_selecting i && nat_lt end i.bound)) (sym (between_over edges (x ∷ kept) kept))
    ∙ sym (filter_two is_selecting (λ (i : Instance). nat_lt end i.bound) (between_times edges kept))
  where
    edges : List ℕ
    edges = rising nat_cmp (0 ∷ marks ++ FINAL ∷ [])

    each : (i : Instance) → Contains (between_times (rising nat_cmp (0 ∷ marks ++ FINAL ∷ [])) (x ∷ kept)) i → (i ≡ interval i.low i.high kept) ⊎ (((is_selecting i && nat_lt end i.bound) ≡ false) × ((is_selecting (interval i.low i.high kept) && nat_lt end i.high) ≡ false))
    each i c =
        let all = rising nat_cmp (0 ∷ marks ++ FINAL ∷ []) in
        let g = All-contains (λ (i : Instance). (i.low < i.high) × (i.bound ≡ i.high) × (i.chosen ≡ within i.low i.high (x ∷ kept)) × Contains all i.low × Contains all i.high) (between_times all (x ∷ kept)) i (between_ends all (x ∷ kept) (nat_rising_is_sorted (0 ∷ marks ++ FINAL ∷ []))) c in
        elim (cases_Bool (is_within i.low i.high x)) [
          | inr out ↦ inl (let same : i.chosen ≡ within i.low i.high kept = g.2 ∙ ap (λ b. cond b (x ∷ within i.low i.high kept) (within i.low i.high kept)) out in λ k. record { low = i.low; high = i.high; bound = g.1 k; chosen = same k })
          | inl held ↦ inr (let p : (nat_le i.low x.time ≡ true) × (nat_lt x.time i.high ≡ true) = and_parts (nat_le i.low x.time) (nat_lt x.time i.high) held in
              let l : i.low ≤ x.time = leb-true i.low x.time p.0 in
              let h : x.time < i.high = ltb-true x.time i.high p.1 in
              let same : i ≡ interval i.low i.high (x ∷ kept) = (λ k. record { low = i.low; high = i.high; bound = g.1 k; chosen = g.2 k }) in
              let sel : is_selecting i ≡ true = ap is_selecting same ∙ some_of_member (is_within i.low i.high) (x ∷ kept) x (Contains-head x kept) (inside_span i.low i.high x l h) in
              let e : i.high ≤ end = ends i (filter_has is_selecting (between_times all (x ∷ kept)) i c sel) l h in
              (and_right (is_selecting i) (nat_lt end i.bound) (le-ltb end i.bound (omega (arith, g.1))), and_right (is_selecting (interval i.low i.high kept)) (nat_lt end i.high) (le-ltb end i.high e)))
        ]

-- ---- sessions
module _ (gap : ℕ) (some : 1 ≤ gap) (end : ℕ) (x : Kept) where
  first_ends : (run : List Kept) (runs : List (List Kept)) → AreParted (IsNear (gap_cut gap)) (IsApart (gap_cut gap)) ((x ∷ run) ∷ runs) → x.time ≤ last_time (x ∷ run)
  first_ends run runs a = (run_spans (IsNear (gap_cut gap)) (IsApart (gap_cut gap)) gap (session_near gap) (λ a b. session_far gap a b some) (x ∷ run) a.0).1

  pub glued_leaves : (pieces : List (List Kept)) → AreParted (IsNear (gap_cut gap)) (IsApart (gap_cut gap)) pieces → AreParted (IsNear (gap_cut gap)) (IsApart (gap_cut gap)) (glued (λ a b. nat_le gap (b.time - a.time)) x pieces)
      → ((i : Instance) → Contains (map (session gap) (glued (λ a b. nat_le gap (b.time - a.time)) x pieces)) i → i.low ≤ x.time → x.time < i.high → i.high ≤ end)
      → incomplete end (map (session gap) (glued (λ a b. nat_le gap (b.time - a.time)) x pieces)) ≡ incomplete end (map (session gap) pieces)
  glued_leaves [] b a ends = alone [] (ends (session gap (x ∷ [])) (Contains-head (session gap (x ∷ [])) []) (omega arith) (omega arith))
    where
      alone : (is : List Instance) → x.time + gap ≤ end → incomplete end (session gap (x ∷ []) ∷ is) ≡ incomplete end is
      alone is l = ap (λ b. cond b (session gap (x ∷ []) ∷ incomplete end is) (incomplete end is)) (le-ltb end (x.time + gap) l)
  glued_leaves ([] ∷ pieces) b a ends = absurd b.0
  glued_leaves ((y ∷ ys) ∷ pieces) b a ends = by (nat_le gap (y.time - x.time)) a ends
    where
      out : (i : Instance) (is : List Instance) → i.bound ≤ end → incomplete end (i ∷ is) ≡ incomplete end is
      out i is l = ap (λ b. cond b (i ∷ incomplete end is) (incomplete end is)) (le-ltb end i.bound l)

      by : (b : Bool) → AreParted (IsNear (gap_cut gap)) (IsApart (gap_cut gap)) (cond b ((x ∷ []) ∷ (y ∷ ys) ∷ pieces) ((x ∷ y ∷ ys) ∷ pieces))
          → ((i : Instance) → Contains (map (session gap) (cond b ((x ∷ []) ∷ (y ∷ ys) ∷ pieces) ((x ∷ y ∷ ys) ∷ pieces))) i → i.low ≤ x.time → x.time < i.high → i.high ≤ end)
          → incomplete end (map (session gap) (cond b ((x ∷ []) ∷ (y ∷ ys) ∷ pieces) ((x ∷ y ∷ ys) ∷ pieces))) ≡ incomplete end (map (session gap) ((y ∷ ys) ∷ pieces))
      by true a ends = out (session gap (x ∷ [])) (map (session gap) ((y ∷ ys) ∷ pieces)) (ends (session gap (x ∷ [])) (Contains-head (session gap (x ∷ [])) (map (session gap) ((y ∷ ys) ∷ pieces))) (omega arith) (omega arith))
      by false a ends =
          let l : last_time (y ∷ ys) + gap ≤ end = ends (session gap (x ∷ y ∷ ys)) (Contains-head (session gap (x ∷ y ∷ ys)) (map (session gap) pieces)) (omega arith) (omega (arith, first_ends (y ∷ ys) pieces a)) in
          out (session gap (x ∷ y ∷ ys)) (map (session gap) pieces) l ∙ sym (out (session gap (y ∷ ys)) (map (session gap) pieces) l)

  -- a session behind the first tuple is one, or the last part of one, with it
  pub glued_still : (pieces : List (List Kept)) → AreParted (IsNear (gap_cut gap)) (IsApart (gap_cut gap)) pieces → AreParted (IsNear (gap_cut gap)) (IsApart (gap_cut gap)) (glued (λ a b. nat_le gap (b.time - a.time)) x pieces) → (i : Instance) → Contains (map (session gap) pieces) i
      → (j : Instance) × Contains (map (session gap) (glued (λ a b. nat_le gap (b.time - a.time)) x pieces)) j × (j.low ≤ i.low) × (j.high ≡ i.high)
  glued_still [] b a i c = absurd (none_in_nil i c)
  glued_still ([] ∷ pieces) b a i c = absurd b.0
  glued_still ((y ∷ ys) ∷ pieces) b a i c = by (nat_le gap (y.time - x.time)) a
    where
      by : (b : Bool) → AreParted (IsNear (gap_cut gap)) (IsApart (gap_cut gap)) (cond b ((x ∷ []) ∷ (y ∷ ys) ∷ pieces) ((x ∷ y ∷ ys) ∷ pieces))
          → (j : Instance) × Contains (map (session gap) (cond b ((x ∷ []) ∷ (y ∷ ys) ∷ pieces) ((x ∷ y ∷ ys) ∷ pieces))) j × (j.low ≤ i.low) × (j.high ≡ i.high)
      by true a = (i, Contains-tail (session gap (x ∷ [])) (map (session gap) ((y ∷ ys) ∷ pieces)) i c, omega arith, refl)
      by false a =
          let l : x.time ≤ y.time = a.0.0.0 in
          elim (Contains-cons_cases (session gap (y ∷ ys)) (map (session gap) pieces) i c) [
            | inl e ↦ (session gap (x ∷ y ∷ ys), Contains-head (session gap (x ∷ y ∷ ys)) (map (session gap) pieces), subst (λ (k : Instance). x.time ≤ k.low) e l, ap (λ (k : Instance). k.high) e)
            | inr d ↦ (i, Contains-tail (session gap (x ∷ y ∷ ys)) (map (session gap) pieces) i d, omega arith, refl)
          ]
