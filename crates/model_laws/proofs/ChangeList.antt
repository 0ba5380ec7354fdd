-- Which changes an entry causes, and their order.
use Rattle.std.proofs.Common.{◌≡◌, ◌≢◌, ◌∙◌, ℕ, zero, suc, ◌+◌, Bool, true, false, cond, eqb, List, [], ◌∷◌, map, ap, sym, refl, subst, inl, inr, ⊎_elim, arith, Option, None, Some}
use Rattle.std.specs.Prelude.{◌⊎◌, ◌&&◌, slice_get}
use Rattle.std.specs.List.{Contains, filter_map, find, flat_map, list_any, cons_option, enumerate_from}
use Rattle.std.proofs.lemmas.Bool.{eqb-true, eq-eqb, and_parts, and_from, or_cases, or_left, or_right, false≢true, false_from_ne_true}
use Rattle.std.proofs.lemmas.List.Elements.{Contains-append_cases, Contains-append_left, Contains-append_right}
use Rattle.stream_base.specs.declared.change.Change.{Change}
use Rattle.stream_base.specs.declared.change.Change.TheVariants.{Gone, New, Again, Dropped}
use Rattle.stream_base.specs.declared.def.Def.{Def}
use Rattle.stream_base.specs.declared.func.Func.{Func}
use Rattle.stream_base.specs.declared.kept.Kept.{Kept}
use Rattle.stream_base.specs.Model.Windows.{Instance}
use Rattle.stream_base.specs.Model.Changes.{former_of, row_of, is_same, are_same_tuples, retraction, emitted, emission, Moment, standing_at, retractions, emissions, changes_between}
use Rattle.stream_base.specs.Laws.{RiseByStart, HasInstance, positions_of, IsChangeOf}
use Rattle.stream_base.proofs.Rising.{none_in_nil, Contains-head, Contains-at_head, Contains-tail, Contains-cons_cases}
use Rattle.stream_base.proofs.Members.{flat_map_members, flat_map_has}
use Rattle.stream_base.proofs.Distinct.{find_same}
use Rattle.stream_base.proofs.ChangeFacts.{enumerate_members}

-- ---- lists
module _ {X Y : Type 0} (h : X → Option Y) where
  pub filter_map_members : (xs : List X) (y : Y) → Contains (filter_map h xs) y → (x : X) × Contains xs x × (h x ≡ Some y)
  filter_map_members [] y c = absurd (none_in_nil y c)
  filter_map_members (x ∷ xs) y c = by (h x) refl (filter_map_members xs y) c
    where
      by : (o : Option Y) → h x ≡ o → (Contains (filter_map h xs) y → (z : X) × Contains xs z × (h z ≡ Some y)) → Contains (cons_option o (filter_map h xs)) y → (z : X) × Contains (x ∷ xs) z × (h z ≡ Some y)
      by None e later d = let m : (z : X) × Contains xs z × (h z ≡ Some y) = later d in (m.0, Contains-tail x xs m.0 m.1, m.2)
      by (Some w) e later d =
          ⊎_elim
          (λ same. (x, Contains-head x xs, e ∙ ap Some same))
          (λ f. let m : (z : X) × Contains xs z × (h z ≡ Some y) = later f in (m.0, Contains-tail x xs m.0 m.1, m.2))
          (Contains-cons_cases w (filter_map h xs) y d)

  pub filter_map_has : (xs : List X) (x : X) (y : Y) → Contains xs x → h x ≡ Some y → Contains (filter_map h xs) y
  filter_map_has [] x y c e = absurd (none_in_nil x c)
  filter_map_has (z ∷ xs) x y c e =
      ⊎_elim
      (λ same. subst (λ o. Contains (cons_option o (filter_map h xs)) y) (sym (ap h same ∙ e)) (Contains-head y (filter_map h xs)))
      (λ d. behind (h z) (filter_map_has xs x y d e))
      (Contains-cons_cases z xs x c)
    where
      behind : (o : Option Y) → Contains (filter_map h xs) y → Contains (cons_option o (filter_map h xs)) y
      behind None d = d
      behind (Some w) d = Contains-tail w (filter_map h xs) y d

pub enumerate_places : {X : Type 0} (n : ℕ) (xs : List X) (w : ℕ × X) → Contains (enumerate_from n xs) w → (j : ℕ) × (w.0 ≡ n + j) × (slice_get xs j ≡ Some w.1)
enumerate_places n [] w c = absurd (none_in_nil w c)
enumerate_places {X} n (x ∷ xs) w c =
    ⊎_elim
    (λ e. (zero, sym (ap (λ (z : ℕ × X). z.0) e) ∙ omega arith, ap Some (ap (λ (z : ℕ × X). z.1) e)))
    (λ d. let m : (j : ℕ) × (w.0 ≡ n + 1 + j) × (slice_get xs j ≡ Some w.1) = enumerate_places (n + 1) xs w d in (suc m.0, omega arith, m.2))
    (Contains-cons_cases (n, x) (enumerate_from (n + 1) xs) w c)

enumerate_has : {X : Type 0} (n : ℕ) (xs : List X) (j : ℕ) (x : X) → slice_get xs j ≡ Some x → Contains (enumerate_from n xs) (n + j, x)
enumerate_has n [] j x e = cc
enumerate_has n (y ∷ xs) zero x e = Contains-at_head (n, y) (enumerate_from (n + 1) xs) (n + 0, x) (let first : n ≡ n + 0 = omega arith in let same : y ≡ x = cc in λ i. (first i, same i))
enumerate_has {X} n (y ∷ xs) (suc j) x e =
    let next : n + 1 + j ≡ n + suc j = omega arith in
    Contains-tail (n, y) (enumerate_from (n + 1) xs) (n + suc j, x) (subst (λ k. Contains (enumerate_from (n + 1) xs) (k, x)) next (enumerate_has (n + 1) xs j x e))

-- the windows with their indices
pub numbered_at : (windows : List Def) (w : ℕ × Def) → Contains (enumerate_from 0 windows) w → slice_get windows w.0 ≡ Some w.1
numbered_at windows w c =
    let m : (j : ℕ) × (w.0 ≡ 0 + j) × (slice_get windows j ≡ Some w.1) = enumerate_places 0 windows w c in
    let same : m.0 ≡ w.0 = omega arith in
    subst (λ j. slice_get windows j ≡ Some w.1) same m.2

pub numbered_has : (windows : List Def) (k : ℕ) (def : Def) → slice_get windows k ≡ Some def → Contains (enumerate_from 0 windows) (k, def)
numbered_has windows k def e = let same : 0 + k ≡ k = omega arith in subst (λ j. Contains (enumerate_from 0 windows) (j, def)) same (enumerate_has 0 windows k def e)

-- ---- tests of instances
has_from_any : (is : List Instance) (i : Instance) → list_any (is_same i) is ≡ true → HasInstance is i.low i.high
has_from_any [] i h = absurd (false≢true h)
has_from_any (x ∷ is) i h =
    ⊎_elim
    (λ e. let both : (eqb i.low x.low ≡ true) × (eqb i.high x.high ≡ true) = and_parts (eqb i.low x.low) (eqb i.high x.high) e in (x, Contains-head x is, sym (eqb-true i.low x.low both.0), sym (eqb-true i.high x.high both.1)))
    (λ e. let m : HasInstance is i.low i.high = has_from_any is i e in (m.0, Contains-tail x is m.0 m.1, m.2, m.3))
    (or_cases (is_same i x) (list_any (is_same i) is) h)

same_from_bounds : (i j : Instance) → j.low ≡ i.low → j.high ≡ i.high → is_same i j ≡ true
same_from_bounds i j l h = and_from (eqb i.low j.low) (eqb i.high j.high) (eq-eqb i.low j.low (sym l)) (eq-eqb i.high j.high (sym h))

any_from_has : (is : List Instance) (i : Instance) → HasInstance is i.low i.high → list_any (is_same i) is ≡ true
any_from_has [] i h = absurd (none_in_nil h.0 h.1)
any_from_has (x ∷ is) i h =
    ⊎_elim
    (λ e. or_left (is_same i x) (list_any (is_same i) is) (subst (λ j. is_same i j ≡ true) (sym e) (same_from_bounds i h.0 h.2 h.3)))
    (λ d. or_right (is_same i x) (list_any (is_same i) is) (any_from_has is i (h.0, d, h.2, h.3)))
    (Contains-cons_cases x is h.0 h.1)

none_from_find : (is : List Instance) (i : Instance) → find (is_same i) is ≡ None → ¬ HasInstance is i.low i.high
none_from_find [] i e h = none_in_nil h.0 h.1
none_from_find (x ∷ is) i e h = by (is_same i x) refl e (λ f. none_from_find is i f)
  where
    by : (b : Bool) → is_same i x ≡ b → cond b (Some x) (find (is_same i) is) ≡ None → (find (is_same i) is ≡ None → ¬ HasInstance is i.low i.high) → ⊥
    by true s f later = cc
    by false s f later =
        ⊎_elim
        (λ same. false≢true (sym s ∙ subst (λ j. is_same i j ≡ true) (sym same) (same_from_bounds i h.0 h.2 h.3)))
        (λ d. later f (h.0, d, h.2, h.3))
        (Contains-cons_cases x is h.0 h.1)

find_from_none : (is : List Instance) (i : Instance) → ¬ HasInstance is i.low i.high → find (is_same i) is ≡ None
find_from_none [] i h = refl
find_from_none (x ∷ is) i h =
    let here : is_same i x ≡ false = false_from_ne_true (is_same i x) (λ e. let both : (eqb i.low x.low ≡ true) × (eqb i.high x.high ≡ true) = and_parts (eqb i.low x.low) (eqb i.high x.high) e in h (x, Contains-head x is, sym (eqb-true i.low x.low both.0), sym (eqb-true i.high x.high both.1))) in
    ap (λ b. cond b (Some x) (find (is_same i) is)) here ∙ find_from_none is i (λ m. h (m.0, Contains-tail x is m.0 m.1, m.2, m.3))

found_is_member : (is : List Instance) (i j : Instance) → find (is_same i) is ≡ Some j → Contains is j × (j.low ≡ i.low) × (j.high ≡ i.high)
found_is_member [] i j e = cc
found_is_member (x ∷ is) i j e = by (is_same i x) refl e (found_is_member is i j)
  where
    by : (b : Bool) → is_same i x ≡ b → cond b (Some x) (find (is_same i) is) ≡ Some j → (find (is_same i) is ≡ Some j → Contains is j × (j.low ≡ i.low) × (j.high ≡ i.high)) → Contains (x ∷ is) j × (j.low ≡ i.low) × (j.high ≡ i.high)
    by true s f later =
        let same : x ≡ j = cc in
        let both : (eqb i.low x.low ≡ true) × (eqb i.high x.high ≡ true) = and_parts (eqb i.low x.low) (eqb i.high x.high) s in
        (Contains-at_head x is j same, sym (ap (λ (k : Instance). k.low) same) ∙ sym (eqb-true i.low x.low both.0), sym (ap (λ (k : Instance). k.high) same) ∙ sym (eqb-true i.high x.high both.1))
    by false s f later = let m : Contains is j × (j.low ≡ i.low) × (j.high ≡ i.high) = later f in (Contains-tail x is j m.0, m.1, m.2)

same_tuples_positions : (xs ys : List Kept) → are_same_tuples xs ys ≡ true → map (λ x. x.position) xs ≡ map (λ y. y.position) ys
same_tuples_positions [] [] h = refl
same_tuples_positions [] (y ∷ ys) h = absurd (false≢true h)
same_tuples_positions (x ∷ xs) [] h = absurd (false≢true h)
same_tuples_positions (x ∷ xs) (y ∷ ys) h =
    let both : (eqb x.position y.position ≡ true) × (are_same_tuples xs ys ≡ true) = and_parts (eqb x.position y.position) (are_same_tuples xs ys) h in
    let first : x.position ≡ y.position = eqb-true x.position y.position both.0 in
    let rest : map (λ x. x.position) xs ≡ map (λ y. y.position) ys = same_tuples_positions xs ys both.1 in
    λ i. first i ∷ rest i

pub positions_same_tuples : (xs ys : List Kept) → map (λ x. x.position) xs ≡ map (λ y. y.position) ys → are_same_tuples xs ys ≡ true
positions_same_tuples [] [] h = refl
positions_same_tuples [] (y ∷ ys) h = cc
positions_same_tuples (x ∷ xs) [] h = cc
positions_same_tuples (x ∷ xs) (y ∷ ys) h =
    let first : x.position ≡ y.position = cc in
    let rest : map (λ x. x.position) xs ≡ map (λ y. y.position) ys = cc in
    and_from (eqb x.position y.position) (are_same_tuples xs ys) (eq-eqb x.position y.position first) (positions_same_tuples xs ys rest)

-- ---- one window
pub retraction_says : (window : ℕ) (key : List ℕ) (func : Func) (now : List Instance) (i : Instance) (c : Change) → retraction window key func now i ≡ Some c → (c ≡ Gone (row_of window key func i)) × (¬ HasInstance now i.low i.high)
retraction_says window key func now i c e = by (list_any (is_same i) now) refl e
  where
    by : (b : Bool) → list_any (is_same i) now ≡ b → cond b None (Some (Gone (row_of window key func i))) ≡ Some c → (c ≡ Gone (row_of window key func i)) × (¬ HasInstance now i.low i.high)
    by true a f = cc
    by false a f = let same : Gone (row_of window key func i) ≡ c = cc in (sym same, λ h. false≢true (sym a ∙ any_from_has now i h))

retraction_given : (window : ℕ) (key : List ℕ) (func : Func) (now : List Instance) (i : Instance) → (¬ HasInstance now i.low i.high) → retraction window key func now i ≡ Some (Gone (row_of window key func i))
retraction_given window key func now i h = ap (λ b. cond b None (Some (Gone (row_of window key func i)))) (false_from_ne_true (list_any (is_same i) now) (λ e. h (has_from_any now i e)))

-- an emission is new or an update
pub emission_cases : (window : ℕ) (key : List ℕ) (func : Func) (before : List Instance) (i : Instance) (c : Change) → emission window key func before i ≡ Some c
    → ((c ≡ New (row_of window key func i)) × (¬ HasInstance before i.low i.high)) ⊎ ((old : Instance) × Contains before old × (old.low ≡ i.low) × (old.high ≡ i.high) × (positions_of old ≢ positions_of i) × (c ≡ Again (row_of window key func i) (former_of func old)))
emission_cases window key func before i c e = by (find (is_same i) before) refl e
  where
    by : (o : Option Instance) → find (is_same i) before ≡ o → emitted window key func i o ≡ Some c → ((c ≡ New (row_of window key func i)) × (¬ HasInstance before i.low i.high)) ⊎ ((old : Instance) × Contains before old × (old.low ≡ i.low) × (old.high ≡ i.high) × (positions_of old ≢ positions_of i) × (c ≡ Again (row_of window key func i) (former_of func old)))
    by None f g = let same : New (row_of window key func i) ≡ c = cc in inl (sym same, none_from_find before i f)
    by (Some old) f g = again (are_same_tuples old.chosen i.chosen) refl g
      where
        again : (b : Bool) → are_same_tuples old.chosen i.chosen ≡ b → cond b None (Some (Again (row_of window key func i) (former_of func old))) ≡ Some c → ((c ≡ New (row_of window key func i)) × (¬ HasInstance before i.low i.high)) ⊎ ((old : Instance) × Contains before old × (old.low ≡ i.low) × (old.high ≡ i.high) × (positions_of old ≢ positions_of i) × (c ≡ Again (row_of window key func i) (former_of func old)))
        again true s k = cc
        again false s k =
            let same : Again (row_of window key func i) (former_of func old) ≡ c = cc in
            let m : Contains before old × (old.low ≡ i.low) × (old.high ≡ i.high) = found_is_member before i old f in
            inr (old, m.0, m.1, m.2, (λ p. false≢true (sym s ∙ positions_same_tuples old.chosen i.chosen p)), sym same)

emission_new : (window : ℕ) (key : List ℕ) (func : Func) (before : List Instance) (i : Instance) → (¬ HasInstance before i.low i.high) → emission window key func before i ≡ Some (New (row_of window key func i))
emission_new window key func before i h = ap (emitted window key func i) (find_from_none before i h)

emission_again : (window : ℕ) (key : List ℕ) (func : Func) (before : List Instance) (old i : Instance) → RiseByStart before → Contains before old → old.low ≡ i.low → old.high ≡ i.high → positions_of old ≢ positions_of i → emission window key func before i ≡ Some (Again (row_of window key func i) (former_of func old))
emission_again window key func before old i s c l h differs =
    let alike : find (is_same i) before ≡ find (is_same old) before = λ k. find (λ j. eqb (sym l k) j.low && eqb (sym h k) j.high) before in
    ap (emitted window key func i) (alike ∙ find_same before old s c)
    ∙ ap (λ b. cond b None (Some (Again (row_of window key func i) (former_of func old)))) (false_from_ne_true (are_same_tuples old.chosen i.chosen) (λ e. differs (same_tuples_positions old.chosen i.chosen e)))

-- ---- one key
pub changes_are_listed : (windows : List Def) (key : List ℕ) (old new : Moment) (c : Change) → Contains (changes_between windows key old new) c → IsChangeOf windows key old new c
unfolding changes_between
changes_are_listed windows key old new c d =
    ⊎_elim gone come (Contains-append_cases (flat_map (retractions key old new) (enumerate_from 0 windows)) (flat_map (emissions key old new) (enumerate_from 0 windows)) c d)
  where
    gone : Contains (flat_map (retractions key old new) (enumerate_from 0 windows)) c → IsChangeOf windows key old new c
    gone g =
        let m : (w : ℕ × Def) × Contains (enumerate_from 0 windows) w × Contains (retractions key old new w) c = flat_map_members (retractions key old new) (enumerate_from 0 windows) c g in
        let k : (i : Instance) × Contains (standing_at (m.0).1 old) i × (retraction (m.0).0 key ((m.0).1).func (standing_at (m.0).1 new) i ≡ Some c) = filter_map_members (retraction (m.0).0 key ((m.0).1).func (standing_at (m.0).1 new)) (standing_at (m.0).1 old) c m.2 in
        let r : (c ≡ Gone (row_of (m.0).0 key ((m.0).1).func k.0)) × (¬ HasInstance (standing_at (m.0).1 new) (k.0).low (k.0).high) = retraction_says (m.0).0 key ((m.0).1).func (standing_at (m.0).1 new) k.0 c k.2 in
        subst (IsChangeOf windows key old new) (sym r.0) (record { def = (m.0).1; of_window = numbered_at windows m.0 m.1; before = k.0; stood = k.1; stands_no_longer = r.1; showed = refl })

    come : Contains (flat_map (emissions key old new) (enumerate_from 0 windows)) c → IsChangeOf windows key old new c
    come g =
        let m : (w : ℕ × Def) × Contains (enumerate_from 0 windows) w × Contains (emissions key old new w) c = flat_map_members (emissions key old new) (enumerate_from 0 windows) c g in
        let k : (i : Instance) × Contains (standing_at (m.0).1 new) i × (emission (m.0).0 key ((m.0).1).func (standing_at (m.0).1 old) i ≡ Some c) = filter_map_members (emission (m.0).0 key ((m.0).1).func (standing_at (m.0).1 old)) (standing_at (m.0).1 new) c m.2 in
        ⊎_elim
        (λ a. subst (IsChangeOf windows key old new) (sym a.0) (record { def = (m.0).1; of_window = numbered_at windows m.0 m.1; now = k.0; stands = k.1; did_not_stand = a.1; shows = refl }))
        (λ a. subst (IsChangeOf windows key old new) (sym a.5) (record { def = (m.0).1; of_window = numbered_at windows m.0 m.1; before = a.0; stood = a.1; now = k.0; stands = k.1; same_start = a.2; same_end = a.3; selects_others = a.4; shows = refl; showed = refl }))
        (emission_cases (m.0).0 key ((m.0).1).func (standing_at (m.0).1 old) k.0 c k.2)

pub changes_are_all_listed : (windows : List Def) (key : List ℕ) (old new : Moment) → ((def : Def) → Contains windows def → RiseByStart (standing_at def old)) → (c : Change) → IsChangeOf windows key old new c → Contains (changes_between windows key old new) c
unfolding changes_between
changes_are_all_listed windows key old new rise (Gone row) h =
    Contains-append_left (flat_map (retractions key old new) (enumerate_from 0 windows)) (flat_map (emissions key old new) (enumerate_from 0 windows)) (Gone row)
    (flat_map_has (retractions key old new) (enumerate_from 0 windows) (row.window, h.def) (Gone row) (numbered_has windows row.window h.def h.of_window)
    (filter_map_has (retraction row.window key (h.def).func (standing_at h.def new)) (standing_at h.def old) h.before (Gone row) h.stood
    (retraction_given row.window key (h.def).func (standing_at h.def new) h.before h.stands_no_longer ∙ ap (λ r. Some (Gone r)) (sym h.showed))))
changes_are_all_listed windows key old new rise (New row) h =
    Contains-append_right (flat_map (retractions key old new) (enumerate_from 0 windows)) (flat_map (emissions key old new) (enumerate_from 0 windows)) (New row)
    (flat_map_has (emissions key old new) (enumerate_from 0 windows) (row.window, h.def) (New row) (numbered_has windows row.window h.def h.of_window)
    (filter_map_has (emission row.window key (h.def).func (standing_at h.def old)) (standing_at h.def new) h.now (New row) h.stands (emission_new row.window key (h.def).func (standing_at h.def old) h.now h.did_not_stand ∙ ap (λ r. Some (New r)) (sym h.shows))))
changes_are_all_listed windows key old new rise (Again row former) h =
    Contains-append_right (flat_map (retractions key old new) (enumerate_from 0 windows)) (flat_map (emissions key old new) (enumerate_from 0 windows)) (Again row former)
    (flat_map_has (emissions key old new) (enumerate_from 0 windows) (row.window, h.def) (Again row former) (numbered_has windows row.window h.def h.of_window)
    (filter_map_has (emission row.window key (h.def).func (standing_at h.def old)) (standing_at h.def new) h.now (Again row former) h.stands
    (emission_again row.window key (h.def).func (standing_at h.def old) h.before h.now (rise h.def (enumerate_members 0 windows (row.window, h.def) (numbered_has windows row.window h.def h.of_window))) h.stood h.same_start h.same_end h.selects_others ∙ (λ k. Some (Again (sym h.shows k) (sym h.showed k))))))
changes_are_all_listed windows key old new rise Dropped h = absurd h
