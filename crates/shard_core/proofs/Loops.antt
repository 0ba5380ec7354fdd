-- The loops over the places of the states that are due.
use Rattle.std.proofs.Common.{◌≡◌, ◌∙◌, ◌≢◌, ◌≤◌, ◌<◌, ◌+◌, ℕ, zero, suc, List, [], ◌∷◌, ◌++◌, length, get_or, take, drop, ap, sym, refl, subst, arith, ⊎_elim, append_assoc}
use Rattle.std.specs.Prelude.{EachIndex, sum_by}
use Rattle.std.specs.List.{HoldsAt, flat_map}
use Rattle.std.proofs.lemmas.Bool.{cases_eq}
use Rattle.std.proofs.lemmas.List.{append-nil, get_or_append_left, get_or_push, length-append, take_more}
use Rattle.std.proofs.lemmas.List.Concat.{flat_map-append}
use Rattle.std.proofs.lemmas.List.Sums.{sum_by-cons, sum_by-drop_more, sum_by_more, sum_by_push}
use Rattle.key_windows.specs.Calls.Call.{Move}
use Rattle.key_windows.specs.Calls.{Call, changes_by_move}
use Rattle.stream_base.specs.Limits.{Definitions}
use Rattle.stream_base.specs.declared.change.Change.{Change}
use Rattle.stream_base.specs.declared.kept.Kept.{Kept}
use Rattle.stream_base.specs.Model.Changes.{Moment}
use Rattle.shard_core.specs.declared.slot.Slot.{Slot}
use Rattle.shard_core.specs.Engines.{AreApart, AreMovedWithin, AreSameSlots, BoundsMove, HasLists, IsMovedSlot, IsSameElsewhere, IsSameSlot, StandAt, StandsIn, moves_of}

-- ---- sums and lists over the first places
sum_same : (f g : ℕ → ℕ) (places : List ℕ) (i : ℕ) → i ≤ length places → ((j : ℕ) → j < i → g (get_or places j 0) ≡ f (get_or places j 0)) → sum_by g (take i places) ≡ sum_by f (take i places)
sum_same f g places zero l h = refl
sum_same f g [] (suc i) l h = absurd (omega arith)
sum_same f g (p ∷ places) (suc i) l h =
    sum_by-cons g p (take i places)
    ∙ (λ k. h 0 (omega arith) k + sum_same f g places i (omega arith) (λ j jl. h (suc j) (omega arith)) k)
    ∙ sym (sum_by-cons f p (take i places))

flat_more : (f : ℕ → List Change) (places : List ℕ) (i : ℕ) → i < length places → flat_map f (take (i + 1) places) ≡ flat_map f (take i places) ++ f (get_or places i 0)
flat_more f places i l = ap (flat_map f) (take_more places i 0 l) ∙ flat_map-append f (take i places) (get_or places i 0 ∷ []) ∙ ap (λ ys. flat_map f (take i places) ++ ys) (append-nil (f (get_or places i 0)))

-- ---- room for the moves
module _ {K : Type 0} (key_of : K → List ℕ) (fits : Definitions → List Kept → List ℕ → ℕ → K → Type 0) (next_position : K → ℕ) (d : Definitions) where
  both_same : (a b c : Slot K) → IsSameSlot key_of fits next_position d a b → IsSameSlot key_of fits next_position d b c → IsSameSlot key_of fits next_position d a c
  both_same a b c f g = record {
    same_key = g.same_key ∙ f.same_key;
    same_next = g.same_next ∙ f.same_next;
    same_water = g.same_water ∙ f.same_water;
    still_fits = λ kept marks water h. g.still_fits kept marks water (f.still_fits kept marks water h);
  }

  -- and so for the same lists
  pub same_lists : (old new : Slot K) → IsSameSlot key_of fits next_position d old new → HasLists fits d old → HasLists fits d new
  same_lists old new s h = (h.0, h.1, subst (λ w. fits d h.0 h.1 w new.state) (sym s.same_water) (s.still_fits h.0 h.1 old.water h.2))

  pub all_same : (slots : List (Slot K)) → AreSameSlots key_of fits next_position d slots slots
  all_same slots = record { as_many = refl; each_same = λ p x. record { same_key = refl; same_next = refl; same_water = refl; still_fits = λ kept marks water h. h } }

  -- one slot more that stands for the same
  pub one_same : (start old new : List (Slot K)) (place : ℕ) → AreSameSlots key_of fits next_position d start old → length new ≡ length old → IsSameElsewhere old new place
      → ((x : Slot K) → IsSameSlot key_of fits next_position d (get_or old place x) (get_or new place x)) → AreSameSlots key_of fits next_position d start new
  one_same start old new place s n others own = record {
    as_many = n ∙ s.as_many;
    each_same = λ p x. ⊎_elim
        (λ e. subst (λ q. IsSameSlot key_of fits next_position d (get_or start q x) (get_or new q x)) (sym e) (both_same (get_or start place x) (get_or old place x) (get_or new place x) (s.each_same place x) (own x)))
        (λ ne. rw (others p x ne) (s.each_same p x))
        (cases_eq p place);
  }

  module _ (is_ready : Call → K → Type 0) (promised : K → ℕ) (new : ℕ) (places : List ℕ) where
    -- the first of the places have room
    pub record AreReserved (i : ℕ) (slots : List (Slot K)) (room : ℕ) : Type 0 where
      pub ready : (j : ℕ) → j < i → HoldsAt (λ slot. is_ready (Move slot.water new) slot.state) slots (get_or places j 0)
      pub room_is : (x : Slot K) → sum_by (λ p. promised (get_or slots p x).state) (take i places) ≡ room

    pub none_reserved : (slots : List (Slot K)) → AreReserved 0 slots 0
    none_reserved slots = record { ready = λ j l. absurd (omega arith); room_is = λ x. refl }

    pub one_reserved : (i : ℕ) (old later : List (Slot K)) (room more total : ℕ) → i < length places → AreApart places
        → AreReserved i old room → IsSameElsewhere old later (get_or places i 0)
        → HoldsAt (λ slot. is_ready (Move slot.water new) slot.state) later (get_or places i 0)
        → HoldsAt (λ slot. promised slot.state ≡ more) later (get_or places i 0)
        → total ≡ room + more
        → AreReserved (i + 1) later total
    one_reserved i old later room more total l apart r others ready more_is total_is = record {
      ready = λ j jl. ⊎_elim
          (λ e. subst (λ k. HoldsAt (λ slot. is_ready (Move slot.water new) slot.state) later (get_or places k 0)) (sym e) ready)
          (λ ne. λ x. rw (others (get_or places j 0) x (apart j i (omega arith) l)) (r.ready j (omega arith) x))
          (cases_eq j i);
      room_is = λ x. sum_by_more (λ p. promised (get_or later p x).state) places i 0 l
          ∙ (λ k. same x k + more_is x k) ∙ sym total_is;
    }
      where
        same : (x : Slot K) → sum_by (λ p. promised (get_or later p x).state) (take i places) ≡ room
        same x = sum_same (λ p. promised (get_or old p x).state) (λ p. promised (get_or later p x).state) places i (omega arith)
            (λ j jl. ap (λ (s : Slot K). promised s.state) (others (get_or places j 0) x (apart j i jl l))) ∙ r.room_is x

    -- the first of the places were moved
    pub record AreMoved (i : ℕ) (start slots : List (Slot K)) (start_dues dues : List ℕ) (start_out out : List Change) (spare : ℕ) : Type 0 where
      pub as_many : length slots ≡ length start
      pub as_many_dues : length dues ≡ length start_dues
      pub outside : (p : ℕ) (x : Slot K) → ((j : ℕ) → j < i → get_or places j 0 ≢ p) → get_or slots p x ≡ get_or start p x
      pub outside_dues : (p x : ℕ) → ((j : ℕ) → j < i → get_or places j 0 ≢ p) → get_or dues p x ≡ get_or start_dues p x
      pub moved : (x : Slot K) (j : ℕ) → j < i → IsMovedSlot key_of fits next_position d new (get_or start (get_or places j 0) x) (get_or slots (get_or places j 0) x) (get_or dues (get_or places j 0) 0)
      pub changes : (x : Slot K) (kept : List ℕ → List Kept) (marks : List ℕ → List ℕ)
          → EachIndex places (λ j. StandsIn key_of fits d kept marks (get_or start (get_or places j 0) x))
          → out ≡ start_out ++ flat_map (λ p. moves_of key_of d kept marks new (get_or start p x)) (take i places)
      pub room : (x : Slot K) → sum_by (λ p. promised (get_or start p x).state) (drop i places) ≤ spare

    pub none_moved : (slots : List (Slot K)) (dues : List ℕ) (out : List Change) (spare : ℕ) → ((x : Slot K) → sum_by (λ p. promised (get_or slots p x).state) places ≤ spare) → AreMoved 0 slots slots dues dues out out spare
    none_moved slots dues out spare h = record {
      as_many = refl;
      as_many_dues = refl;
      outside = λ p x h. refl;
      outside_dues = λ p x h. refl;
      moved = λ x j l. absurd (omega arith);
      changes = λ x kept marks each. sym (append-nil out);
      room = h;
    }

    pub one_moved : (i : ℕ) (start old later : List (Slot K)) (start_dues old_dues later_dues : List ℕ) (start_out old_out later_out : List Change) (spare later_spare : ℕ)
        → i < length places → AreApart places
        → AreMoved i start old start_dues old_dues start_out old_out spare
        → length later ≡ length old → length later_dues ≡ length old_dues
        → IsSameElsewhere old later (get_or places i 0) → IsSameElsewhere old_dues later_dues (get_or places i 0)
        → ((x : Slot K) → IsMovedSlot key_of fits next_position d new (get_or old (get_or places i 0) x) (get_or later (get_or places i 0) x) (get_or later_dues (get_or places i 0) 0))
        → ((x : Slot K) (kept : List Kept) (marks : List ℕ) → fits d kept marks (get_or old (get_or places i 0) x).water (get_or old (get_or places i 0) x).state
        → later_out ≡ old_out ++ changes_by_move d (key_of (get_or old (get_or places i 0) x).state) kept marks (get_or old (get_or places i 0) x).water new)
        → ((x : Slot K) → spare ≤ later_spare + promised (get_or old (get_or places i 0) x).state)
        → AreMoved (i + 1) start later start_dues later_dues start_out later_out later_spare
    one_moved i start old later start_dues old_dues later_dues start_out old_out later_out spare later_spare l apart m n n_dues others other_dues moved changes room = record {
      as_many = n ∙ m.as_many;
      as_many_dues = n_dues ∙ m.as_many_dues;
      outside = λ p x h. others p x (λ e. h i (omega arith) (sym e)) ∙ m.outside p x (λ j jl. h j (omega arith));
      outside_dues = λ p x h. other_dues p x (λ e. h i (omega arith) (sym e)) ∙ m.outside_dues p x (λ j jl. h j (omega arith));
      moved = λ x j jl. ⊎_elim (λ e. here x j e) (λ ne. before x j (omega arith)) (cases_eq j i);
      changes = λ x kept marks each. with_changes x kept marks each;
      room = λ x. let same : promised (get_or old (get_or places i 0) x).state ≡ promised (get_or start (get_or places i 0) x).state = ap (λ (s : Slot K). promised s.state) (untouched x) in
          omega (arith, sum_by-drop_more (λ p. promised (get_or start p x).state) places i 0 l, m.room x, room x, same);
    }
      where
        untouched : (x : Slot K) → get_or old (get_or places i 0) x ≡ get_or start (get_or places i 0) x
        untouched x = m.outside (get_or places i 0) x (λ j jl. apart j i jl l)

        here : (x : Slot K) (j : ℕ) → j ≡ i → IsMovedSlot key_of fits next_position d new (get_or start (get_or places j 0) x) (get_or later (get_or places j 0) x) (get_or later_dues (get_or places j 0) 0)
        here x j e = rw (e, ← untouched x) (moved x)

        before : (x : Slot K) (j : ℕ) → j < i → IsMovedSlot key_of fits next_position d new (get_or start (get_or places j 0) x) (get_or later (get_or places j 0) x) (get_or later_dues (get_or places j 0) 0)
        before x j jl = rw (others (get_or places j 0) x (apart j i jl l), other_dues (get_or places j 0) 0 (apart j i jl l)) (m.moved x j jl)

        with_changes : (x : Slot K) (kept : List ℕ → List Kept) (marks : List ℕ → List ℕ) → EachIndex places (λ j. StandsIn key_of fits d kept marks (get_or start (get_or places j 0) x))
            → later_out ≡ start_out ++ flat_map (λ p. moves_of key_of d kept marks new (get_or start p x)) (take (i + 1) places)
        with_changes x kept marks each =
            let stands : StandsIn key_of fits d kept marks (get_or old (get_or places i 0) x) = rw (untouched x) (each i l) in
            changes x (kept (key_of (get_or old (get_or places i 0) x).state)) (marks (key_of (get_or old (get_or places i 0) x).state)) stands
            ∙ (λ k. m.changes x kept marks each k ++ moves_of key_of d kept marks new (untouched x k))
            ∙ append_assoc start_out (flat_map (λ p. moves_of key_of d kept marks new (get_or start p x)) (take i places)) (moves_of key_of d kept marks new (get_or start (get_or places i 0) x))
            ∙ ap (λ ys. start_out ++ ys) (sym (flat_more (λ p. moves_of key_of d kept marks new (get_or start p x)) places i l))

-- ---- what the moves take
module _ {K : Type 0} (bounds : Definitions → List ℕ → Moment → Moment → ℕ → Type 0) (key_of : K → List ℕ) (d : Definitions) (kept : List ℕ → List Kept) (marks : List ℕ → List ℕ) (new : ℕ) (start : List (Slot K)) (x : Slot K) (places : List ℕ) where
  pub none_moved_within : (steps : ℕ) → AreMovedWithin bounds key_of d kept marks new start x places 0 steps steps
  none_moved_within steps = record { most = []; as_many = refl; are_bounds = λ j l. absurd (omega arith); within = omega arith }

  pub one_moved_within : (i : ℕ) (old : List (Slot K)) (steps middle later : ℕ) → get_or old (get_or places i 0) x ≡ get_or start (get_or places i 0) x
      → AreMovedWithin bounds key_of d kept marks new start x places i steps middle
      → (bound : ℕ) × BoundsMove bounds key_of d kept marks new (get_or old (get_or places i 0) x) bound × (later ≤ middle + bound)
      → AreMovedWithin bounds key_of d kept marks new start x places (i + 1) steps later
  one_moved_within i old steps middle later same m b = record {
    most = m.most ++ b.0 ∷ [];
    as_many = length-append m.most (b.0 ∷ []) ∙ ap (λ n. n + 1) m.as_many;
    are_bounds = λ j l. ⊎_elim
        (λ e. subst (λ k. BoundsMove bounds key_of d kept marks new (get_or start (get_or places k 0) x) (get_or (m.most ++ b.0 ∷ []) k 0)) (sym e)
        (subst (BoundsMove bounds key_of d kept marks new (get_or start (get_or places i 0) x)) (sym (get_or_push m.most b.0 0 i m.as_many))
        (subst (λ slot. BoundsMove bounds key_of d kept marks new slot b.0) same b.1)))
        (λ ne. let before : j < i = omega (arith, l, ne) in
        subst (BoundsMove bounds key_of d kept marks new (get_or start (get_or places j 0) x)) (sym (get_or_append_left m.most (b.0 ∷ []) 0 j (omega (arith, before, m.as_many)))) (m.are_bounds j before))
        (cases_eq j i);
    within = omega (arith, sum_by_push (λ n. n) m.most b.0, m.within, b.2);
  }

-- ---- slots that were caught up
pub one_caught_up : {K : Type 0} (water : ℕ) (old later : List (Slot K)) (places : List ℕ) (i : ℕ) → StandAt water old places i → IsSameElsewhere old later (get_or places i 0)
    → HoldsAt (λ slot. slot.water ≡ water) later (get_or places i 0) → StandAt water later places (i + 1)
one_caught_up water old later places i stand others own = λ j l x. ⊎_elim
    (λ e. subst (λ p. (get_or later p x).water ≡ water) (sym e) (own x))
    (λ ne. ap (λ (s : Slot _). s.water) (others (get_or places j 0) x ne) ∙ stand j (before j l ne) x)
    (cases_eq (get_or places j 0) (get_or places i 0))
  where
    before : (j : ℕ) → j < i + 1 → get_or places j 0 ≢ get_or places i 0 → j < i
    before j l ne = ⊎_elim (λ e. absurd (ne (ap (λ k. get_or places k 0) e))) (λ no. omega (arith, l, no)) (cases_eq j i)

-- slots that stand for the same do so under the same watermarks
pub still_stand : {K : Type 0} (key_of : K → List ℕ) (fits : Definitions → List Kept → List ℕ → ℕ → K → Type 0) (next_position : K → ℕ) (d : Definitions) (water : ℕ) (old new : List (Slot K)) (places : List ℕ) (count : ℕ)
    → AreSameSlots key_of fits next_position d old new → StandAt water old places count → StandAt water new places count
still_stand key_of fits next_position d water old new places count same stand = λ i l x. (same.each_same (get_or places i 0) x).same_water ∙ stand i l x
