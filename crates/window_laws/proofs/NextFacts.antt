-- The next bound of a window, by its kind.
use Rattle.std.proofs.Common.{◌≡◌, ◌∙◌, ℕ, zero, suc, ◌+◌, ◌-◌, ◌*◌, ◌/◌, ◌<◌, ◌≤◌, max, Bool, true, false, cond, Option, Some, None, List, [], ◌∷◌, length, map, ap, sym, subst, arith, inl, inr}
use Rattle.std.specs.Prelude.{◌⊎◌, ◌&&◌, nat_le, nat_lt}
use Rattle.std.specs.List.{All, Contains, find, range_with_len}
use Rattle.std.specs.List.Sorted.{IsStrictlySortedBy}
use Rattle.std.specs.Option.{option_map_or}
use Rattle.std.specs.Ordering.{nat_cmp}
use Rattle.std.proofs.Math.Nat.{le-div_iff_mul-le}
use Rattle.std.proofs.lemmas.Bool.{and_from, and_parts, cases_lt, le-leb, leb-true, le-ltb, lt-ltb}
use Rattle.std.proofs.lemmas.Bool.Decides.{nat_tests}
use Rattle.std.proofs.lemmas.Cmp.{nat_cmp_total}
use Rattle.std.proofs.lemmas.Map.Keys.{sorted_tail}
use Rattle.std.proofs.lemmas.Option.{slice_get-get_or, slice_get_past}
use Rattle.stream_base.specs.declared.def.Def.{Def}
use Rattle.stream_base.specs.declared.kept.Kept.{Kept}
use Rattle.stream_base.specs.declared.kind.Kind.TheVariants.{Events}
use Rattle.stream_base.specs.declared.limits.TheConstants.{FINAL}
use Rattle.stream_base.specs.Laws.{TimesDoNotFall}
use Rattle.stream_base.specs.Kinds.{length_of, slide_of, IsKindWithin, is_timed}
use Rattle.stream_base.specs.Model.Changes.{Moment}
use Rattle.stream_base.specs.Model.Windows.{Instance, counted, instances_of, interval, ranks, spans, starts_of}
use Rattle.stream_base.proofs.Distinct.{lt_from_less}
use Rattle.stream_base.proofs.KindFacts.{timed_instances, timed_within}
use Rattle.stream_base.proofs.Members.{filter_has, filter_members, map_members, range_members}
use Rattle.stream_base.proofs.Rising.{below_tail, Contains-cons_cases, Contains-head, Contains-tail, none_in_nil}
use Rattle.stream_base.proofs.Spans.{starts_of_is_sorted, starts_of_members}
use Rattle.window_laws.specs.Counts.{upper}
use Rattle.window_laws.specs.Due.{first_open, time_of_number}
use Rattle.window_laws.specs.Walk.{IsFirstFrom, WalksOn, due_from, next_start, next_start_of}
use Rattle.window_laws.proofs.CountFacts.{complete_rank, none_of}
use Rattle.window_laws.proofs.InstanceFacts.{in_counts, ranks_bound}
use Rattle.window_laws.proofs.LateFacts.{find_none}
use Rattle.window_laws.proofs.WalkFacts.{from_next, none_due, to_next, walks_on}

times_mono : (a b c : ℕ) → a ≤ b → a * c ≤ b * c
times_mono a b c h = grind arith

-- ---- event counts
find_at : (f : ℕ → Instance) (q : Instance → Bool) (a n t : ℕ) → a ≤ t → t < a + n → ((i : ℕ) → a ≤ i → i < t → q (f i) ≡ false) → q (f t) ≡ true → find q (map f (range_with_len a n)) ≡ Some (f t)
find_at f q a zero t l h below here = absurd (omega arith)
find_at f q a (suc n) t l h below here = elim (cases_lt a t) [
  | inl g ↦ ap (λ b. cond b (Some (f a)) (find q (map f (range_with_len (a + 1) n)))) (below a (omega arith) g) ∙ find_at f q (a + 1) n t (omega arith) (omega arith) (λ i u v. below i (omega arith) v) here
  | inr g ↦ (let e : a ≡ t = omega arith in ap (λ b. cond b (Some (f a)) (find q (map f (range_with_len (a + 1) n)))) (ap (λ i. q (f i)) e ∙ here) ∙ ap (λ i. Some (f i)) e)
]

pub next_of_counts : (count : ℕ) (w : Def) (m : Moment) → w.kind ≡ Events count → 1 ≤ count → TimesDoNotFall m.kept → first_open m w ≡ time_of_number m.kept ((upper m.water m.kept / count + 1) * count)
unfolding instances_of
next_of_counts count w m e some h =
    (λ i. option_map_or (λ (i : Instance). i.bound) (find (λ (i : Instance). nat_lt m.water i.bound) (instances_of (e i) m.kept m.marks)) FINAL)
    ∙ by (cases_lt (upper m.water m.kept / count) (length m.kept / count))
  where
    turned : (a b : ℕ) (c : Bool) → nat_le b a ≡ c → nat_lt a b ≡ cond c false true
    turned a b c g = grind (arith, nat_tests)

    test : (i : ℕ) → i < length m.kept / count → nat_lt m.water (ranks count m.kept i).bound ≡ cond (nat_lt i (0 + upper m.water m.kept / count)) false true
    test i l = turned m.water (ranks count m.kept i).bound (nat_lt i (0 + upper m.water m.kept / count)) (complete_rank count m.water some m.kept h i l)

    by : (upper m.water m.kept / count < length m.kept / count) ⊎ (length m.kept / count ≤ upper m.water m.kept / count) → option_map_or (λ (i : Instance). i.bound) (find (λ (i : Instance). nat_lt m.water i.bound) (counted count m.kept)) FINAL ≡ time_of_number m.kept ((upper m.water m.kept / count + 1) * count)
    by (inl l) =
        let n = upper m.water m.kept / count in
        let room : (n + 1) * count ≤ length m.kept = in_counts n count (length m.kept) l in
        let full : 1 * count ≤ (n + 1) * count = times_mono 1 (n + 1) count (omega arith) in
        ap (λ (o : Option Instance). option_map_or (λ (i : Instance). i.bound) o FINAL)
        (find_at (ranks count m.kept) (λ (i : Instance). nat_lt m.water i.bound) 0 (length m.kept / count) n (omega arith) (omega arith)
        (λ i a b. test i (omega arith) ∙ ap (λ c. cond c false true) (lt-ltb i (0 + n) (omega arith)))
        (test n l ∙ ap (λ c. cond c false true) (le-ltb n (0 + n) (omega arith))))
        ∙ ranks_bound count m.kept n none_of some room
        ∙ sym (ap (λ (o : Option Kept). option_map_or (λ (x : Kept). x.time) o FINAL) (slice_get-get_or m.kept ((n + 1) * count - 1) none_of (omega arith)))
    by (inr l) =
        ap (λ (o : Option Instance). option_map_or (λ (i : Instance). i.bound) o FINAL)
        (find_none (λ (i : Instance). nat_lt m.water i.bound) (counted count m.kept)
        (λ j c. let g : (i : ℕ) × Contains (range_with_len 0 (length m.kept / count)) i × (ranks count m.kept i ≡ j) = map_members (ranks count m.kept) (range_with_len 0 (length m.kept / count)) j c in
        let r : (0 ≤ g.0) × (g.0 < 0 + length m.kept / count) = range_members 0 (length m.kept / count) g.0 g.1 in
        subst (λ (j : Instance). nat_lt m.water j.bound ≡ false) g.2 (test g.0 (omega (arith, r.1)) ∙ ap (λ c. cond c false true) (lt-ltb g.0 (0 + upper m.water m.kept / count) (omega (arith, r.1))))))
        ∙ sym (ap (λ (o : Option Kept). option_map_or (λ (x : Kept). x.time) o FINAL) (slice_get_past m.kept ((upper m.water m.kept / count + 1) * count - 1) short))
      where
        short : length m.kept ≤ (upper m.water m.kept / count + 1) * count - 1
        short = elim (cases_lt (length m.kept) ((upper m.water m.kept / count + 1) * count)) [
          | inl g ↦ omega arith
          | inr g ↦ absurd (let f : upper m.water m.kept / count + 1 ≤ length m.kept / count = (le-div_iff_mul-le {k = count} {x = upper m.water m.kept / count + 1} {y = length m.kept} some).1 g in omega arith)
        ]

-- ---- tumbling and sliding
find_least : (f : ℕ → Instance) (q : Instance → Bool) (lows : List ℕ) (low : ℕ) → IsStrictlySortedBy nat_cmp lows → Contains lows low → q (f low) ≡ true → ((a : ℕ) → Contains lows a → a < low → q (f a) ≡ false) → find q (map f lows) ≡ Some (f low)
find_least f q [] low s c here below = absurd (none_in_nil low c)
find_least f q (a ∷ lows) low s c here below =
    elim (Contains-cons_cases a lows low c) [
      | inl e ↦ ap (λ b. cond b (Some (f a)) (find q (map f lows))) (ap (λ i. q (f i)) e ∙ here) ∙ ap (λ i. Some (f i)) e
      | inr d ↦ (let l : a < low = lt_from_less a low (below_tail nat_cmp_total a lows s low d) in
          ap (λ b. cond b (Some (f a)) (find q (map f lows))) (below a (Contains-head a lows) l) ∙ find_least f q lows low (sorted_tail nat_cmp a lows s) d here (λ b g. below b (Contains-tail a lows b g)))
    ]

module _ (length slide : ℕ) (moves : 1 ≤ slide) (overlaps : slide ≤ length) (kept : List Kept) (water : ℕ) where
  abbrev over : ℕ → Instance
  over low = interval low (low + length) kept

  -- an interval that isn't complete is due, once the watermark comes to its end
  due_at_end : (a end : ℕ) → Contains (starts_of length slide kept) a → water < a + length → a + length ≤ end → Contains (due_from length slide kept (next_start length slide water) end) a
  due_at_end a end c l r =
      let h : (k : ℕ) × (x : Kept) × Contains kept x × (a ≡ k * slide) × (a ≤ x.time) × (x.time < a + length) = starts_of_members length slide moves overlaps kept a c in
      let n : next_start length slide water ≤ h.0 * slide = from_next length slide moves overlaps water h.0 (omega (arith, h.3)) in
      filter_has (λ low. nat_le (next_start length slide water) low && nat_le (low + length) end) (starts_of length slide kept) a c (and_from (nat_le (next_start length slide water) a) (nat_le (a + length) end) (le-leb (next_start length slide water) a (omega (arith, h.3))) (le-leb (a + length) end r))

  found : (x : Kept) (low : ℕ) → WalksOn length slide kept (next_start length slide water) low (low + length) → next_start length slide water ≤ low → find (λ (i : Instance). nat_lt water i.bound) (spans length slide kept) ≡ Some (interval low (low + length) kept)
  found x low walk le =
      find_least over (λ (i : Instance). nat_lt water i.bound) (starts_of length slide kept) low (starts_of_is_sorted length slide kept)
      (filter_members (λ a. nat_le (next_start length slide water) a && nat_le (a + length) (low + length)) (starts_of length slide kept) low (subst (λ l. Contains l low) (sym due) (Contains-head low (due_from length slide kept (low + slide) (low + length))))).0
      (lt-ltb water (low + length) (ends (walk.multiple)))
      (λ a c l. le-ltb water (a + length) (elim (cases_lt water (a + length)) [ inr g ↦ g | inl g ↦ absurd (earlier a l (Contains-cons_cases low (due_from length slide kept (low + slide) (low + length)) a (subst (λ ls. Contains ls a) due (due_at_end a (low + length) c g (omega arith))))) ]))
    where
      due : due_from length slide kept (next_start length slide water) (low + length) ≡ low ∷ due_from length slide kept (low + slide) (low + length)
      due = walk.goes_on (omega arith)

      ends : (j : ℕ) × (low ≡ j * slide) → water < low + length
      ends j = let g : water < j.0 * slide + length = to_next length slide moves overlaps water j.0 (omega (arith, j.1)) in omega (arith, j.1)

      earlier : (a : ℕ) → a < low → (low ≡ a) ⊎ Contains (due_from length slide kept (low + slide) (low + length)) a → ⊥
      earlier a l (inl e) = omega arith
      earlier a l (inr d) =
          let m : Contains (starts_of length slide kept) a × ((nat_le (low + slide) a && nat_le (a + length) (low + length)) ≡ true) = filter_members (λ b. nat_le (low + slide) b && nat_le (b + length) (low + length)) (starts_of length slide kept) a d in
          let g : low + slide ≤ a = leb-true (low + slide) a (and_parts (nat_le (low + slide) a) (nat_le (a + length) (low + length)) m.1).0 in
          omega arith

  not_found : All (λ x. x.time < next_start length slide water) kept → find (λ (i : Instance). nat_lt water i.bound) (spans length slide kept) ≡ None
  not_found early =
      find_none (λ (i : Instance). nat_lt water i.bound) (spans length slide kept)
      (λ i c. let g : (a : ℕ) × Contains (starts_of length slide kept) a × (interval a (a + length) kept ≡ i) = map_members over (starts_of length slide kept) i c in
      subst (λ (i : Instance). nat_lt water i.bound ≡ false) g.2
      (le-ltb water (g.0 + length) (elim (cases_lt water (g.0 + length)) [ inr r ↦ r | inl r ↦ absurd (none_in_nil g.0 (subst (λ ls. Contains ls g.0) (none_due length slide kept (next_start length slide water) (g.0 + length) moves overlaps early) (due_at_end g.0 (g.0 + length) g.1 r (omega arith)))) ])))

  pub next_span : (x : Kept) → IsFirstFrom kept (next_start length slide water) x → find (λ (i : Instance). nat_lt water i.bound) (spans length slide kept) ≡ Some (interval (max (next_start length slide water) (next_start length slide x.time)) (max (next_start length slide water) (next_start length slide x.time) + length) kept)
  next_span x first =
      let low = max (next_start length slide water) (next_start length slide x.time) in
      found x low (walks_on length slide kept ((water + slide - length) / slide) (low + length) x moves overlaps first) (omega arith)

  pub no_next_span : All (λ x. x.time < next_start length slide water) kept → find (λ (i : Instance). nat_lt water i.bound) (spans length slide kept) ≡ None
  no_next_span = not_found

first_open_of_timed : (w : Def) (m : Moment) → is_timed w.kind ≡ true → first_open m w ≡ option_map_or (λ (i : Instance). i.bound) (find (λ (i : Instance). nat_lt m.water i.bound) (spans (length_of w.kind) (slide_of w.kind) m.kept)) FINAL
first_open_of_timed w m t = ap (λ is. option_map_or (λ (i : Instance). i.bound) (find (λ (i : Instance). nat_lt m.water i.bound) is) FINAL) (timed_instances w.kind m.kept m.marks t)

pub next_of_timed : (w : Def) (m : Moment) (x : Kept) → is_timed w.kind ≡ true → IsKindWithin w.kind → IsFirstFrom m.kept (next_start_of w.kind m.water) x → first_open m w ≡ max (next_start_of w.kind m.water) (next_start_of w.kind x.time) + length_of w.kind
next_of_timed w m x t k first =
    let s = timed_within w.kind t k in
    first_open_of_timed w m t ∙ ap (λ (o : Option Instance). option_map_or (λ (i : Instance). i.bound) o FINAL) (next_span (length_of w.kind) (slide_of w.kind) s.0 s.1 m.kept m.water x first)

pub none_next_of_timed : (w : Def) (m : Moment) → is_timed w.kind ≡ true → IsKindWithin w.kind → All (λ x. x.time < next_start_of w.kind m.water) m.kept → first_open m w ≡ FINAL
none_next_of_timed w m t k early =
    let s = timed_within w.kind t k in
    first_open_of_timed w m t ∙ ap (λ (o : Option Instance). option_map_or (λ (i : Instance). i.bound) o FINAL) (no_next_span (length_of w.kind) (slide_of w.kind) s.0 s.1 m.kept m.water early)
