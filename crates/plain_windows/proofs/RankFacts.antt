-- The runs of so many tuples: which there are, and the time of the last of each.
use Rattle.std.proofs.Common.{◌≡◌, ◌∙◌, ℕ, zero, suc, ◌+◌, ◌-◌, ◌*◌, ◌/◌, ◌%◌, ◌<◌, ◌≤◌, Bool, true, false, List, [], ◌∷◌, length, get_or, None, Some, take, drop, ap, refl, subst, arith, length-take, length-drop, get_or-take, get_or-drop}
use Rattle.std.specs.Prelude.{nat_le, nat_lt}
use Rattle.std.specs.List.{All, Contains, find, range_with_len}
use Rattle.std.proofs.lemmas.Bool.{ltb-true, ltb-false, le-leb, lt-ltb, le-ltb, lt-leb}
use Rattle.std.proofs.lemmas.Nat.{div-add-mod'}
use Rattle.stream_base.specs.declared.kept.Kept.{Kept}
use Rattle.stream_base.specs.Model.Windows.{Instance, last_time, ranks, counted, instances_of}
use Rattle.stream_base.specs.declared.kind.Kind.TheVariants.{Events}
use Rattle.stream_base.specs.Kinds.{IsKindWithin}
use Rattle.stream_base.specs.Laws.{RiseByStart, TimesDoNotFall}
use Rattle.stream_base.proofs.KindFacts.{instances_rise}
use Rattle.plain_windows.proofs.Found.{find_first, find_none}
use Rattle.plain_windows.proofs.PlaceFacts.{some_tuple}
use Rattle.stream_base.proofs.Members.{range_members, range_has, map_members, map_has}
use Rattle.stream_base.specs.Places.{IsPlaceOf}

-- products and quotients
pub times_mono : (a b c : ℕ) → a ≤ b → a * c ≤ b * c
times_mono a b c h = grind arith

pub quotient_times : (n k m : ℕ) → m ≤ n / k → m * k ≤ n
quotient_times n k m h =
    let a : m * k ≤ n / k * k = times_mono m (n / k) k h in
    let b : n / k * k + n % k ≡ n = div-add-mod' n k in
    omega arith

pub above_quotient : (n k m : ℕ) → 0 < k → n / k ≤ m → n < (m + 1) * k
above_quotient n k m pos h =
    let a : n / k * k ≤ m * k = times_mono (n / k) m k h in
    let b : n / k * k + n % k ≡ n = div-add-mod' n k in
    omega arith

-- the time of the last of a run
pub last_time_at : (run : List Kept) (n : ℕ) (d : Kept) → length run ≡ n + 1 → last_time run ≡ (get_or run n d).time
last_time_at [] n d h = absurd (omega arith)
last_time_at (x ∷ []) zero d h = refl
last_time_at (x ∷ []) (suc n) d h = absurd (omega arith)
last_time_at (x ∷ y ∷ ys) zero d h = absurd (omega arith)
last_time_at (x ∷ y ∷ ys) (suc n) d h = last_time_at (y ∷ ys) n d (omega arith)

-- the last of some tuples in the middle of a list
pub last_of_part : (kept : List Kept) (first count : ℕ) (d : Kept) → 1 ≤ count → first + count ≤ length kept → last_time (take count (drop first kept)) ≡ (get_or kept (first + count - 1) d).time
last_of_part kept first count d some within =
    let long : length (take count (drop first kept)) ≡ count - 1 + 1 = simp (length-take, length-drop) (omega arith) in
    let place : first + (count - 1) ≡ first + count - 1 = omega arith in
    last_time_at (take count (drop first kept)) (count - 1) d long
    ∙ ap (λ (x : Kept). x.time) (get_or-take count (drop first kept) (count - 1) d (omega arith) ∙ get_or-drop first kept (count - 1) d ∙ ap (λ n. get_or kept n d) place)

module _ (count : ℕ) (some : 1 ≤ count) (kept : List Kept) where
  pub counted_members : (i : Instance) → Contains (counted count kept) i → (k : ℕ) × (k < length kept / count) × (ranks count kept k ≡ i)
  counted_members i c =
      let m : (k : ℕ) × Contains (range_with_len 0 (length kept / count)) k × (ranks count kept k ≡ i) = map_members (ranks count kept) (range_with_len 0 (length kept / count)) i c in
      let within : (0 ≤ m.0) × (m.0 < 0 + length kept / count) = range_members 0 (length kept / count) m.0 m.1 in
      (m.0, omega arith, m.2)

  pub counted_has : (k : ℕ) → k < length kept / count → Contains (counted count kept) (ranks count kept k)
  counted_has k l = map_has (ranks count kept) (range_with_len 0 (length kept / count)) k (range_has 0 (length kept / count) k (omega arith) (omega arith))

  pub run_fits : (k : ℕ) → k < length kept / count → k * count + count ≤ length kept
  run_fits k l = let le : (k + 1) * count ≤ length kept = quotient_times (length kept) count (k + 1) (omega arith) in omega arith

  pub bound_of_run : (k : ℕ) (d : Kept) → k < length kept / count → (ranks count kept k).bound ≡ (get_or kept (k * count + count - 1) d).time
  bound_of_run k d l = last_of_part kept (k * count) count d some (run_fits k l)

  pub counted_rises : IsKindWithin (Events count) → TimesDoNotFall kept → RiseByStart (counted count kept)
  unfolding instances_of
  counted_rises kind times = instances_rise (Events count) kept [] kind times

  -- the first run that passes a test, where none before it does
  pub find_run : (p : Instance → Bool) (k : ℕ) → RiseByStart (counted count kept) → k < length kept / count → p (ranks count kept k) ≡ true → ((j : ℕ) → j < k → p (ranks count kept j) ≡ false) → find p (counted count kept) ≡ Some (ranks count kept k)
  find_run p k rise l t early = find_first p (counted count kept) (ranks count kept k) rise (counted_has k l) t each
    where
      earlier : (j : ℕ) (b : Bool) → nat_lt j k ≡ b → j * count < k * count → j < k
      earlier j true e h = ltb-true j k e
      earlier j false e h = let le : k * count ≤ j * count = times_mono k j count (ltb-false j k e) in absurd (omega arith)

      each : (i : Instance) → Contains (counted count kept) i → i.low < k * count → p i ≡ false
      each i c h =
          let m : (j : ℕ) × (j < length kept / count) × (ranks count kept j ≡ i) = counted_members i c in
          let same : m.0 * count ≡ i.low = ap (λ (x : Instance). x.low) m.2 in
          subst (λ x. p x ≡ false) m.2 (early m.0 (earlier m.0 (nat_lt m.0 k) refl (omega arith)))

  pub find_no_run : (p : Instance → Bool) → ((j : ℕ) → j < length kept / count → p (ranks count kept j) ≡ false) → find p (counted count kept) ≡ None
  find_no_run p none = find_none p (counted count kept) (λ i c. let m : (j : ℕ) × (j < length kept / count) × (ranks count kept j ≡ i) = counted_members i c in subst (λ x. p x ≡ false) m.2 (none m.0 m.1))

  -- runs by their starts
  starts_early : (from k : ℕ) → k < (from + count - 1) / count → nat_le from (k * count) ≡ false
  starts_early from k l = let le : (k + 1) * count ≤ from + count - 1 = quotient_times (from + count - 1) count (k + 1) (omega arith) in lt-leb from (k * count) (omega arith)

  starts_late : (from k : ℕ) → (from + count - 1) / count ≤ k → nat_le from (k * count) ≡ true
  starts_late from k l = let lt : from + count - 1 < (k + 1) * count = above_quotient (from + count - 1) count k some l in le-leb from (k * count) (omega arith)

  module _ (rise : RiseByStart (counted count kept)) (from : ℕ) where
    pub first_run_from : (from + count - 1) / count < length kept / count → find (λ i. nat_le from i.low) (counted count kept) ≡ Some (ranks count kept ((from + count - 1) / count))
    first_run_from l = find_run (λ i. nat_le from i.low) ((from + count - 1) / count) rise l (starts_late from ((from + count - 1) / count) (omega arith)) (λ j h. starts_early from j h)

    pub no_run_from : length kept / count ≤ (from + count - 1) / count → find (λ i. nat_le from i.low) (counted count kept) ≡ None
    no_run_from l = find_no_run (λ i. nat_le from i.low) (λ j h. starts_early from j (omega arith))

    pub no_run_beyond : length kept < from → find (λ i. nat_le from i.low) (counted count kept) ≡ None
    no_run_beyond l = find_no_run (λ i. nat_le from i.low) (λ j h. lt-leb from (j * count) (omega (arith, run_fits j h)))

  -- runs by the times of their last tuples
  module _ (rise : RiseByStart (counted count kept)) (water place : ℕ) (at : IsPlaceOf (λ (x : Kept). x.time) kept (water + 1) place) where
    ends_early : (k : ℕ) → k < place / count → nat_lt water (ranks count kept k).bound ≡ false
    ends_early k l =
        let fits : (k + 1) * count ≤ place = quotient_times place count (k + 1) (omega arith) in
        let inside : (k + 1) * count ≤ length kept = omega (arith, at.within) in
        let early : (get_or kept (k * count + count - 1) some_tuple).time < water + 1 = at.before (k * count + count - 1) some_tuple (omega arith) (omega arith) in
        let is : (ranks count kept k).bound ≡ (get_or kept (k * count + count - 1) some_tuple).time = last_of_part kept (k * count) count some_tuple some (omega arith) in
        le-ltb water (ranks count kept k).bound (omega (arith, is))

    ends_late : (k : ℕ) → place / count ≤ k → k < length kept / count → nat_lt water (ranks count kept k).bound ≡ true
    ends_late k l h =
        let beyond : place < (k + 1) * count = above_quotient place count k some l in
        let fits : k * count + count ≤ length kept = run_fits k h in
        let late : water + 1 ≤ (get_or kept (k * count + count - 1) some_tuple).time = at.behind (k * count + count - 1) some_tuple (omega arith) (omega arith) in
        lt-ltb water (ranks count kept k).bound (omega (arith, bound_of_run k some_tuple h))

    pub first_run_above : place / count < length kept / count → find (λ i. nat_lt water i.bound) (counted count kept) ≡ Some (ranks count kept (place / count))
    first_run_above l = find_run (λ i. nat_lt water i.bound) (place / count) rise l (ends_late (place / count) (omega arith) l) (λ j h. ends_early j h)

    pub no_run_above : length kept / count ≤ place / count → find (λ i. nat_lt water i.bound) (counted count kept) ≡ None
    no_run_above l = find_no_run (λ i. nat_lt water i.bound) (λ j h. ends_early j (omega arith))

  pub no_run_at_all : (water most : ℕ) → All (λ x. x.time ≤ most) kept → most ≤ water → find (λ i. nat_lt water i.bound) (counted count kept) ≡ None
  no_run_at_all water most times le =
      find_no_run (λ i. nat_lt water i.bound)
      (λ j h. let fits : j * count + count ≤ length kept = run_fits j h in
      let early : (get_or kept (j * count + count - 1) some_tuple).time ≤ most = times (j * count + count - 1) some_tuple (omega arith) in
      let is : (ranks count kept j).bound ≡ (get_or kept (j * count + count - 1) some_tuple).time = bound_of_run j some_tuple h in
      le-ltb water (ranks count kept j).bound (omega (arith, is)))
