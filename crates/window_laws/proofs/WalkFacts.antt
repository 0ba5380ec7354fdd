-- The walk over the intervals that a move of the watermark completes.
use Rattle.std.proofs.Common.{◌≡◌, ◌∙◌, ℕ, ◌+◌, ◌-◌, ◌*◌, ◌/◌, ◌%◌, ◌<◌, ◌≤◌, max, Bool, true, false, List, [], ◌∷◌, map, ap, sym, refl, subst, inl, inr, ⊎_elim, arith, min, fold}
use Rattle.std.specs.Prelude.{◌⊎◌, ◌&&◌, nat_le, nat_lt}
use Rattle.std.specs.List.{All, Contains, filter}
use Rattle.std.specs.List.Sorted.{IsStrictlySortedBy}
use Rattle.std.specs.Ordering.{nat_cmp}
use Rattle.std.specs.declared.cmp.Ordering.TheVariants.{Less}
use Rattle.std.proofs.lemmas.Bool.{leb-true, le-leb, ltb-true, lt-ltb, and_parts, and_from, cases_lt, cases_eq}
use Rattle.std.proofs.lemmas.Cmp.{nat_cmp_total}
use Rattle.std.proofs.lemmas.List.Elements.{All-contains}
use Rattle.std.proofs.lemmas.List.Kept.{IsStrictlySortedBy-filter}
use Rattle.std.proofs.lemmas.Nat.{div_below, div-add-mod', mod_below}
use Rattle.stream_base.specs.declared.kept.Kept.{Kept}
use Rattle.stream_base.specs.Laws.{becomes_complete}
use Rattle.stream_base.specs.Model.Windows.{interval, spans, starts_of}
use Rattle.stream_base.proofs.Distinct.{less_from_lt, All_from_members}
use Rattle.stream_base.proofs.Members.{filter_members, filter_has, filter_map_of, filter_same}
use Rattle.stream_base.proofs.Rising.{sorted_cons, same_members_same_list, Contains-head, Contains-at_head, Contains-tail, Contains-cons_cases, none_in_nil}
use Rattle.stream_base.proofs.Spans.{starts_of_members, starts_of_has, starts_of_is_sorted}
use Rattle.window_laws.specs.Walk.{due_from, next_start, IsFirstFrom, WalksOn}

-- multiples
times_mono : (a b c : ℕ) → a ≤ b → a * c ≤ b * c
times_mono a b c h = grind arith

times_below : (j k s : ℕ) → j * s < k * s → j < k
times_below j k s h = elim (cases_lt j k) [ inl l ↦ l | inr l ↦ absurd (omega (arith, times_mono k j s l)) ]

next_multiple : (j k s : ℕ) → j * s < k * s → j * s + s ≤ k * s
next_multiple j k s h =
    let l : j < k = times_below j k s h in
    let m : (j + 1) * s ≤ k * s = times_mono (j + 1) k s (omega arith) in
    omega arith

agree : (a b : Bool) → (a ≡ true → b ≡ true) → (b ≡ true → a ≡ true) → a ≡ b
agree true b f g = sym (f refl)
agree false true f g = g refl
agree false false f g = refl

module _ (length slide : ℕ) (moves : 1 ≤ slide) (overlaps : slide ≤ length) where
  -- an interval from a multiple ends after a time exactly where it starts at or after the next start
  pub from_next : (time k : ℕ) → time < k * slide + length → next_start length slide time ≤ k * slide
  from_next time k h =
      let early : (time + slide - length) / slide < k + 1 = div_below (time + slide - length) slide (k + 1) moves (omega arith) in
      times_mono ((time + slide - length) / slide) k slide (omega arith)

  pub to_next : (time k : ℕ) → next_start length slide time ≤ k * slide → time < k * slide + length
  to_next time k h =
      let n : ℕ = time + slide - length in
      let d : n / slide * slide + n % slide ≡ n = div-add-mod' n slide in
      let r : n % slide < slide = mod_below n slide moves in
      omega (arith, h)

  next_at_most : (time : ℕ) → next_start length slide time ≤ time
  next_at_most time =
      let n : ℕ = time + slide - length in
      let d : n / slide * slide + n % slide ≡ n = div-add-mod' n slide in
      omega arith

  completed : (kept : List Kept) (old new : ℕ) → filter (becomes_complete old new) (spans length slide kept) ≡ map (λ low. interval low (low + length) kept) (due_from length slide kept (next_start length slide old) new)
  completed kept old new =
      filter_map_of (becomes_complete old new) (λ low. interval low (low + length) kept) (starts_of length slide kept)
      ∙ ap (map (λ low. interval low (low + length) kept)) (filter_same (λ low. nat_lt old (low + length) && nat_le (low + length) new) (λ low. nat_le (next_start length slide old) low && nat_le (low + length) new) (starts_of length slide kept) same)
    where
      same : (a : ℕ) → Contains (starts_of length slide kept) a → (nat_lt old (a + length) && nat_le (a + length) new) ≡ (nat_le (next_start length slide old) a && nat_le (a + length) new)
      same a c =
          let h : (k : ℕ) × (x : Kept) × Contains kept x × (a ≡ k * slide) × (a ≤ x.time) × (x.time < a + length) = starts_of_members length slide moves overlaps kept a c in
          ap (λ b. b && nat_le (a + length) new)
          (agree (nat_lt old (a + length)) (nat_le (next_start length slide old) a)
          (λ t. le-leb _ _ (let l : old < a + length = ltb-true old (a + length) t in let n : next_start length slide old ≤ h.0 * slide = from_next old h.0 (omega (arith, h.3)) in omega (arith, h.3)))
          (λ t. lt-ltb old (a + length) (let l : next_start length slide old ≤ a = leb-true _ _ t in let n : old < h.0 * slide + length = to_next old h.0 (omega (arith, h.3)) in omega (arith, h.3))))

  due_members : (kept : List Kept) (from new a : ℕ) → Contains (due_from length slide kept from new) a → Contains (starts_of length slide kept) a × (from ≤ a) × (a + length ≤ new)
  due_members kept from new a c =
      let m : Contains (starts_of length slide kept) a × ((nat_le from a && nat_le (a + length) new) ≡ true) = filter_members (λ low. nat_le from low && nat_le (low + length) new) (starts_of length slide kept) a c in
      let p : (nat_le from a ≡ true) × (nat_le (a + length) new ≡ true) = and_parts (nat_le from a) (nat_le (a + length) new) m.1 in
      (m.0, leb-true from a p.0, leb-true (a + length) new p.1)

  due_has : (kept : List Kept) (from new a : ℕ) → Contains (starts_of length slide kept) a → from ≤ a → a + length ≤ new → Contains (due_from length slide kept from new) a
  due_has kept from new a c low high =
      filter_has (λ low. nat_le from low && nat_le (low + length) new) (starts_of length slide kept) a c (and_from (nat_le from a) (nat_le (a + length) new) (le-leb from a low) (le-leb (a + length) new high))

  due_is_sorted : (kept : List Kept) (from new : ℕ) → IsStrictlySortedBy nat_cmp (due_from length slide kept from new)
  due_is_sorted kept from new = IsStrictlySortedBy-filter nat_cmp (λ low. nat_le from low && nat_le (low + length) new) (starts_of length slide kept) (starts_of_is_sorted length slide kept)

  none_of : (xs : List ℕ) → ((a : ℕ) → Contains xs a → ⊥) → xs ≡ []
  none_of [] h = refl
  none_of (a ∷ xs) h = absurd (h a (Contains-head a xs))

  no_due : (kept : List Kept) (from new : ℕ) → All (λ x. x.time < from) kept → due_from length slide kept from new ≡ []
  no_due kept from new early = none_of (due_from length slide kept from new) none
    where
      none : (a : ℕ) → Contains (due_from length slide kept from new) a → ⊥
      none a c =
          let m : Contains (starts_of length slide kept) a × (from ≤ a) × (a + length ≤ new) = due_members kept from new a c in
          let h : (k : ℕ) × (x : Kept) × Contains kept x × (a ≡ k * slide) × (a ≤ x.time) × (x.time < a + length) = starts_of_members length slide moves overlaps kept a m.0 in
          let e : (h.1).time < from = All-contains (λ (x : Kept). x.time < from) kept h.1 early h.2 in
          omega (arith, h.4, m.1)

  module _ (kept : List Kept) (k new : ℕ) (x : Kept) (first : IsFirstFrom kept (k * slide) x) (j low : ℕ) (is : low ≡ j * slide) (from : k * slide ≤ low) (next : next_start length slide x.time ≤ low) (before : low ≤ x.time) (least : (i : ℕ) → k * slide ≤ i * slide → next_start length slide x.time ≤ i * slide → low ≤ i * slide) where
    -- each interval that is due starts at or after this one
    due_later : (a : ℕ) → Contains (due_from length slide kept (k * slide) new) a → low ≤ a
    due_later a c =
        let m : Contains (starts_of length slide kept) a × (k * slide ≤ a) × (a + length ≤ new) = due_members kept (k * slide) new a c in
        let h : (i : ℕ) × (y : Kept) × Contains kept y × (a ≡ i * slide) × (a ≤ y.time) × (y.time < a + length) = starts_of_members length slide moves overlaps kept a m.0 in
        let d : ((h.1).time < k * slide) ⊎ (x.time ≤ (h.1).time) = All-contains (λ (y : Kept). (y.time < k * slide) ⊎ (x.time ≤ y.time)) kept h.1 first.first h.2 in
        let later : x.time ≤ (h.1).time = ⊎_elim (λ e. absurd (omega (arith, m.1, h.4))) (λ l. l) d in
        let n : next_start length slide x.time ≤ h.0 * slide = from_next x.time h.0 (omega (arith, h.3, h.5)) in
        subst (λ z. low ≤ z) (sym h.3) (least h.0 (omega (arith, m.1, h.3)) n)

    low_starts : Contains (starts_of length slide kept) low
    low_starts =
        let holds : x.time < j * slide + length = to_next x.time j (omega arith) in
        subst (Contains (starts_of length slide kept)) (sym is) (starts_of_has length slide moves overlaps kept x j first.member (omega arith) holds)

    ends_here : new < low + length → due_from length slide kept (k * slide) new ≡ []
    ends_here h = none_of (due_from length slide kept (k * slide) new) (λ a c. let l : low ≤ a = due_later a c in let m : Contains (starts_of length slide kept) a × (k * slide ≤ a) × (a + length ≤ new) = due_members kept (k * slide) new a c in omega (arith, m.2))

    here_and_on : low + length ≤ new → due_from length slide kept (k * slide) new ≡ low ∷ due_from length slide kept (low + slide) new
    here_and_on h =
        same_members_same_list nat_cmp_total (due_from length slide kept (k * slide) new) (low ∷ due_from length slide kept (low + slide) new)
        (due_is_sorted kept (k * slide) new)
        (sorted_cons nat_cmp_total low (due_from length slide kept (low + slide) new)
        (All_from_members (λ a. nat_cmp low a ≡ Less) (due_from length slide kept (low + slide) new) (λ a c. less_from_lt low a (let m : Contains (starts_of length slide kept) a × (low + slide ≤ a) × (a + length ≤ new) = due_members kept (low + slide) new a c in omega (arith, m.1))))
        (due_is_sorted kept (low + slide) new))
        (λ a c. there a c (due_later a c)) back
      where
        there : (a : ℕ) → Contains (due_from length slide kept (k * slide) new) a → low ≤ a → Contains (low ∷ due_from length slide kept (low + slide) new) a
        there a c l =
            let m : Contains (starts_of length slide kept) a × (k * slide ≤ a) × (a + length ≤ new) = due_members kept (k * slide) new a c in
            let i : (i : ℕ) × (y : Kept) × Contains kept y × (a ≡ i * slide) × (a ≤ y.time) × (y.time < a + length) = starts_of_members length slide moves overlaps kept a m.0 in
            ⊎_elim
            (λ e. Contains-at_head low (due_from length slide kept (low + slide) new) a e)
            (λ ne. let n : j * slide + slide ≤ i.0 * slide = next_multiple j i.0 slide (below low a (j * slide) (i.0 * slide) l ne is i.3) in
            Contains-tail low (due_from length slide kept (low + slide) new) a (due_has kept (low + slide) new a m.0 (omega (arith, i.3)) m.2))
            (cases_eq low a)
          where
            below : (a b c d : ℕ) → a ≤ b → (a ≡ b → ⊥) → a ≡ c → b ≡ d → c < d
            below a b c d l ne p q = elim (cases_lt a b) [ inl s ↦ omega arith | inr s ↦ absurd (ne (omega arith)) ]

        back : (a : ℕ) → Contains (low ∷ due_from length slide kept (low + slide) new) a → Contains (due_from length slide kept (k * slide) new) a
        back a c =
            ⊎_elim
            (λ e. subst (Contains (due_from length slide kept (k * slide) new)) e (due_has kept (k * slide) new low low_starts from h))
            (λ d. let m : Contains (starts_of length slide kept) a × (low + slide ≤ a) × (a + length ≤ new) = due_members kept (low + slide) new a d in due_has kept (k * slide) new a m.0 (omega (arith, m.1)) m.2)
            (Contains-cons_cases low (due_from length slide kept (low + slide) new) a c)

    goes : WalksOn length slide kept (k * slide) low new
    goes = record { multiple = (j, is); ends = ends_here; goes_on = here_and_on }

pub walks_on : (length slide : ℕ) (kept : List Kept) (k new : ℕ) (x : Kept) → 1 ≤ slide → slide ≤ length → IsFirstFrom kept (k * slide) x → WalksOn length slide kept (k * slide) (max (k * slide) (next_start length slide x.time)) new
walks_on length slide kept k new x moves overlaps first = by (cases_lt (k * slide) (next_start length slide x.time))
  where
    by : (k * slide < next_start length slide x.time) ⊎ (next_start length slide x.time ≤ k * slide) → WalksOn length slide kept (k * slide) (max (k * slide) (next_start length slide x.time)) new
    by (inl l) =
        let e : next_start length slide x.time ≡ max (k * slide) (next_start length slide x.time) = omega arith in
        subst (λ low. WalksOn length slide kept (k * slide) low new) e
        (goes length slide moves overlaps kept k new x first ((x.time + slide - length) / slide) (next_start length slide x.time) refl (omega arith) (omega arith) (next_at_most length slide moves overlaps x.time) (λ i a b. b))
    by (inr l) =
        let e : k * slide ≡ max (k * slide) (next_start length slide x.time) = omega arith in
        subst (λ low. WalksOn length slide kept (k * slide) low new) e
        (goes length slide moves overlaps kept k new x first k (k * slide) refl (omega arith) l first.after (λ i a b. a))

pub completed_from : (length slide : ℕ) (kept : List Kept) (old new : ℕ) → 1 ≤ slide → slide ≤ length → filter (becomes_complete old new) (spans length slide kept) ≡ map (λ low. interval low (low + length) kept) (due_from length slide kept (next_start length slide old) new)
completed_from length slide kept old new moves overlaps = completed length slide moves overlaps kept old new

pub none_due : (length slide : ℕ) (kept : List Kept) (from new : ℕ) → 1 ≤ slide → slide ≤ length → All (λ x. x.time < from) kept → due_from length slide kept from new ≡ []
none_due length slide kept from new moves overlaps early = no_due length slide moves overlaps kept from new early

pub least_below : (start : ℕ) (xs : List ℕ) → fold min start xs ≤ start
least_below start [] = omega arith
least_below start (x ∷ xs) = omega (arith, least_below (min start x) xs)

pub least_of : (start : ℕ) (xs : List ℕ) (x : ℕ) → Contains xs x → fold min start xs ≤ x
least_of start [] x c = absurd (none_in_nil x c)
least_of start (y ∷ ys) x c =
    ⊎_elim
    (λ e. omega (arith, least_below (min start y) ys, e))
    (λ d. least_of (min start y) ys x d)
    (Contains-cons_cases y ys x c)
