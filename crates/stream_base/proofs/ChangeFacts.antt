-- Changes from one moment to the next: none where nothing stands otherwise, and what the watermark alone brings.
use Rattle.std.proofs.Common.{◌≡◌, ◌∙◌, ℕ, ◌+◌, ◌<◌, ◌≤◌, Bool, true, false, cond, eqb, List, [], ◌∷◌, ◌++◌, map, ap, sym, refl, subst, ⊎_elim, arith, Option, None, Some}
use Rattle.std.specs.Prelude.{◌⊎◌, nat_le, nat_lt}
use Rattle.std.specs.List.{All, Contains, filter, filter_map, find, flat_map, list_any, cons_option, enumerate_from}
use Rattle.std.specs.List.Sorted.{IsNonDecreasingBy}
use Rattle.std.proofs.lemmas.Bool.{leb-true, le-leb, ltb-true, ltb-false, eqb-true, eq-eqb, and_parts, and_right, and_from, or_left, or_right, cases_Bool, false≢true}
use Rattle.std.proofs.lemmas.List.Elements.{All-contains}
use Rattle.std.proofs.lemmas.List.Kept.{IsStrictlySortedBy-filter}
use Rattle.stream_base.specs.declared.change.Change.TheVariants.{Gone, New, Again}
use Rattle.stream_base.specs.declared.def.Def.{Def}
use Rattle.stream_base.specs.declared.func.Func.{Func}
use Rattle.stream_base.specs.declared.kept.Kept.{Kept}
use Rattle.stream_base.specs.Kinds.{IsKindWithin}
use Rattle.stream_base.specs.Model.Windows.{Instance, instances_of, is_complete}
use Rattle.stream_base.specs.Model.Changes.{row_of, former_of, is_same, are_same_tuples, retraction, emitted, emission, Moment, standing_at, retractions, emissions, changes_between}
use Rattle.stream_base.specs.Laws.{by_start, RiseByStart, becomes_complete, completions}
use Rattle.stream_base.proofs.Rising.{none_in_nil, Contains-head, Contains-at_head, Contains-tail, Contains-cons_cases}
use Rattle.stream_base.proofs.Members.{filter_members, filter_has}
use Rattle.stream_base.proofs.Distinct.{is_same_itself, find_same, one_of_a_start}
use Rattle.stream_base.proofs.KindFacts.{instances_rise, standing_rises}

-- ---- chains that give nothing, or one item for each
filter_map_none : {X Y : Type 0} (f : X → Option Y) (xs : List X) → ((x : X) → Contains xs x → f x ≡ None) → filter_map f xs ≡ []
filter_map_none f [] h = refl
filter_map_none f (x ∷ xs) h =
    ap (λ o. cons_option o (filter_map f xs)) (h x (Contains-head x xs)) ∙ filter_map_none f xs (λ y c. h y (Contains-tail x xs y c))

filter_map_same : {X Y : Type 0} (f g : X → Option Y) (xs : List X) → ((x : X) → Contains xs x → f x ≡ g x) → filter_map f xs ≡ filter_map g xs
filter_map_same f g [] h = refl
filter_map_same f g (x ∷ xs) h =
    let first : f x ≡ g x = h x (Contains-head x xs) in
    let rest : filter_map f xs ≡ filter_map g xs = filter_map_same f g xs (λ y c. h y (Contains-tail x xs y c)) in
    λ i. cons_option (first i) (rest i)

-- of those that pass a first test, those that pass a second give one item each, and the others none
filter_map_picks : {X Y : Type 0} (f : X → Option Y) (g : X → Y) (p q : X → Bool) (xs : List X)
    → ((x : X) → Contains xs x → p x ≡ true → q x ≡ true → f x ≡ Some (g x))
    → ((x : X) → Contains xs x → p x ≡ true → q x ≡ false → f x ≡ None)
    → ((x : X) → Contains xs x → p x ≡ false → q x ≡ false)
    → filter_map f (filter p xs) ≡ map g (filter q xs)
filter_map_picks f g p q [] given passed out = refl
filter_map_picks {X} {Y} f g p q (x ∷ xs) given passed out =
    by (p x) (q x) refl refl (filter_map_picks f g p q xs (λ y c. given y (Contains-tail x xs y c)) (λ y c. passed y (Contains-tail x xs y c)) (λ y c. out y (Contains-tail x xs y c)))
  where
    by : (b c : Bool) → p x ≡ b → q x ≡ c → filter_map f (filter p xs) ≡ map g (filter q xs) → filter_map f (cond b (x ∷ filter p xs) (filter p xs)) ≡ map g (cond c (x ∷ filter q xs) (filter q xs))
    by true true e d h = λ i. cons_option (given x (Contains-head x xs) e d i) (h i)
    by true false e d h = λ i. cons_option (passed x (Contains-head x xs) e d i) (h i)
    by false true e d h = absurd (false≢true (sym (out x (Contains-head x xs) e) ∙ d))
    by false false e d h = h

pub any_from_member : {X : Type 0} (p : X → Bool) (xs : List X) (x : X) → Contains xs x → p x ≡ true → list_any p xs ≡ true
any_from_member p [] x c h = absurd (none_in_nil x c)
any_from_member p (y ∷ xs) x c h =
    ⊎_elim
    (λ e. or_left (p y) (list_any p xs) (ap p e ∙ h))
    (λ d. or_right (p y) (list_any p xs) (any_from_member p xs x d h))
    (Contains-cons_cases y xs x c)

find_none : {X : Type 0} (p : X → Bool) (xs : List X) → ((x : X) → Contains xs x → p x ≡ false) → find p xs ≡ None
find_none p [] h = refl
find_none p (x ∷ xs) h =
    ap (λ b. cond b (Some x) (find p xs)) (h x (Contains-head x xs)) ∙ find_none p xs (λ y c. h y (Contains-tail x xs y c))

-- ---- one instance
same_tuples_itself : (xs : List Kept) → are_same_tuples xs xs ≡ true
same_tuples_itself [] = refl
same_tuples_itself (x ∷ xs) = and_from (eqb x.position x.position) (are_same_tuples xs xs) (eq-eqb x.position x.position refl) (same_tuples_itself xs)

-- one that stands still isn't retracted
pub not_retracted : (window : ℕ) (key : List ℕ) (func : Func) (now : List Instance) (i : Instance) → Contains now i → retraction window key func now i ≡ None
not_retracted window key func now i c = ap (λ b. cond b None (Some (Gone (row_of window key func i)))) (any_from_member (is_same i) now i c (is_same_itself i))

-- one that stood with the same tuples isn't emitted
pub not_emitted : (window : ℕ) (key : List ℕ) (func : Func) (before : List Instance) (i : Instance) → RiseByStart before → Contains before i → emission window key func before i ≡ None
not_emitted window key func before i s c =
    ap (emitted window key func i) (find_same before i s c)
    ∙ ap (λ b. cond b None (Some (Again (row_of window key func i) (former_of func i)))) (same_tuples_itself i.chosen)

-- ---- one window
-- where the same instances stand, nothing changes
pub none_retracted : (window : ℕ) (key : List ℕ) (func : Func) (now before : List Instance) → before ≡ now → filter_map (retraction window key func now) before ≡ []
none_retracted window key func now before e = filter_map_none (retraction window key func now) before (λ i c. not_retracted window key func now i (subst (λ l. Contains l i) e c))

pub none_emitted : (window : ℕ) (key : List ℕ) (func : Func) (before now : List Instance) → RiseByStart before → before ≡ now → filter_map (emission window key func before) now ≡ []
none_emitted window key func before now s e = filter_map_none (emission window key func before) now (λ i c. not_emitted window key func before i s (subst (λ l. Contains l i) (sym e) c))

-- where the watermark alone moves, nothing is retracted
pub none_retracted_at_water : (window : ℕ) (key : List ℕ) (func : Func) (is : List Instance) (old new : ℕ) → old ≤ new → filter_map (retraction window key func (filter (is_complete new) is)) (filter (is_complete old) is) ≡ []
none_retracted_at_water window key func is old new le =
    filter_map_none (retraction window key func (filter (is_complete new) is)) (filter (is_complete old) is) (λ i c. not_retracted window key func (filter (is_complete new) is) i (still i c))
  where
    still : (i : Instance) → Contains (filter (is_complete old) is) i → Contains (filter (is_complete new) is) i
    still i c =
        let m : Contains is i × (is_complete old i ≡ true) = filter_members (is_complete old) is i c in
        let below : i.bound ≤ old = leb-true i.bound old m.1 in
        filter_has (is_complete new) is i m.0 (le-leb i.bound new (omega arith))

-- and the instances whose bounds it passes are emitted as new
pub emitted_at_water : (window : ℕ) (key : List ℕ) (func : Func) (is : List Instance) (old new : ℕ) → RiseByStart is → old ≤ new → filter_map (emission window key func (filter (is_complete old) is)) (filter (is_complete new) is) ≡ map (λ i. New (row_of window key func i)) (filter (becomes_complete old new) is)
emitted_at_water window key func is old new s le =
    filter_map_picks (emission window key func (filter (is_complete old) is)) (λ i. New (row_of window key func i)) (is_complete new) (becomes_complete old new) is newly still never
  where
    newly : (i : Instance) → Contains is i → is_complete new i ≡ true → becomes_complete old new i ≡ true → emission window key func (filter (is_complete old) is) i ≡ Some (New (row_of window key func i))
    newly i c done passes =
        let above : old < i.bound = ltb-true old i.bound (and_parts (nat_lt old i.bound) (nat_le i.bound new) passes).0 in
        ap (emitted window key func i) (find_none (is_same i) (filter (is_complete old) is) (λ j d. other j d above (cases_Bool (is_same i j))))
      where
        other : (j : Instance) → Contains (filter (is_complete old) is) j → old < i.bound → (is_same i j ≡ true) ⊎ (is_same i j ≡ false) → is_same i j ≡ false
        other j d above r =
            ⊎_elim
            (λ same. let m : Contains is j × (is_complete old j ≡ true) = filter_members (is_complete old) is j d in
            let one : i ≡ j = one_of_a_start is i j s c m.0 (eqb-true i.low j.low (and_parts (eqb i.low j.low) (eqb i.high j.high) same).0) in
            let below : j.bound ≤ old = leb-true j.bound old m.1 in
            let bounds : i.bound ≡ j.bound = ap (λ (k : Instance). k.bound) one in
            absurd (omega arith))
            (λ differs. differs)
            r

    still : (i : Instance) → Contains is i → is_complete new i ≡ true → becomes_complete old new i ≡ false → emission window key func (filter (is_complete old) is) i ≡ None
    still i c done passes = not_emitted window key func (filter (is_complete old) is) i (IsStrictlySortedBy-filter by_start (is_complete old) is s) (filter_has (is_complete old) is i c (was (nat_lt old i.bound) refl))
      where
        was : (b : Bool) → nat_lt old i.bound ≡ b → is_complete old i ≡ true
        was true e = absurd (false≢true (sym passes ∙ and_from (nat_lt old i.bound) (nat_le i.bound new) e done))
        was false e = le-leb i.bound old (ltb-false old i.bound e)

    never : (i : Instance) → Contains is i → is_complete new i ≡ false → becomes_complete old new i ≡ false
    never i c h = and_right (nat_lt old i.bound) (nat_le i.bound new) h

-- ---- all windows of a key
pub enumerate_members : {X : Type 0} (n : ℕ) (xs : List X) (w : ℕ × X) → Contains (enumerate_from n xs) w → Contains xs w.1
enumerate_members n [] w c = absurd (none_in_nil w c)
enumerate_members {X} n (x ∷ xs) w c =
    ⊎_elim
    (λ e. Contains-at_head x xs w.1 (ap (λ (z : ℕ × X). z.1) e))
    (λ d. Contains-tail x xs w.1 (enumerate_members (n + 1) xs w d))
    (Contains-cons_cases (n, x) (enumerate_from (n + 1) xs) w c)

pub flat_map_none : {X Y : Type 0} (f : X → List Y) (xs : List X) → ((x : X) → Contains xs x → f x ≡ []) → flat_map f xs ≡ []
flat_map_none f [] h = refl
flat_map_none f (x ∷ xs) h =
    ap (λ l. l ++ flat_map f xs) (h x (Contains-head x xs)) ∙ flat_map_none f xs (λ y c. h y (Contains-tail x xs y c))

pub flat_map_same : {X Y : Type 0} (f g : X → List Y) (xs : List X) → ((x : X) → Contains xs x → f x ≡ g x) → flat_map f xs ≡ flat_map g xs
flat_map_same f g [] h = refl
flat_map_same f g (x ∷ xs) h =
    let first : f x ≡ g x = h x (Contains-head x xs) in
    let rest : flat_map f xs ≡ flat_map g xs = flat_map_same f g xs (λ y c. h y (Contains-tail x xs y c)) in
    λ i. first i ++ rest i

-- what stands of each window rises
pub standing_at_rises : (windows : List Def) (m : Moment) → All (λ w. IsKindWithin w.kind) windows → IsNonDecreasingBy (λ (x : Kept). x.time) m.kept → (def : Def) → Contains windows def → RiseByStart (standing_at def m)
standing_at_rises windows m within in_order def c = standing_rises def.kind m.kept m.marks m.water (All-contains (λ w. IsKindWithin w.kind) windows def within c) in_order

-- where the same stands of each window, nothing changes
pub no_changes : (windows : List Def) (key : List ℕ) (old new : Moment) → ((def : Def) → Contains windows def → RiseByStart (standing_at def old)) → ((def : Def) → Contains windows def → standing_at def old ≡ standing_at def new) → changes_between windows key old new ≡ []
unfolding changes_between
no_changes windows key old new rise same =
    let gone : flat_map (retractions key old new) (enumerate_from 0 windows) ≡ [] = flat_map_none (retractions key old new) (enumerate_from 0 windows) (λ w c. none_retracted w.0 key (w.1).func (standing_at w.1 new) (standing_at w.1 old) (same w.1 (enumerate_members 0 windows w c))) in
    let come : flat_map (emissions key old new) (enumerate_from 0 windows) ≡ [] = flat_map_none (emissions key old new) (enumerate_from 0 windows) (λ w c. none_emitted w.0 key (w.1).func (standing_at w.1 old) (standing_at w.1 new) (rise w.1 (enumerate_members 0 windows w c)) (same w.1 (enumerate_members 0 windows w c))) in
    λ i. gone i ++ come i

-- from a moment to itself nothing changes
pub no_changes_at_rest : (windows : List Def) (key : List ℕ) (m : Moment) → All (λ w. IsKindWithin w.kind) windows → IsNonDecreasingBy (λ (x : Kept). x.time) m.kept → changes_between windows key m m ≡ []
no_changes_at_rest windows key m within in_order = no_changes windows key m m (standing_at_rises windows m within in_order) (λ def c. refl)

-- where the watermark alone moves, the changes are the completions
pub changes_at_water : (windows : List Def) (key : List ℕ) (kept : List Kept) (marks : List ℕ) (old new : ℕ) → All (λ w. IsKindWithin w.kind) windows → IsNonDecreasingBy (λ (x : Kept). x.time) kept → old ≤ new
    → changes_between windows key (record { kept = kept; marks = marks; water = old }) (record { kept = kept; marks = marks; water = new }) ≡ flat_map (completions key (record { kept = kept; marks = marks; water = old }) new) (enumerate_from 0 windows)
unfolding changes_between
changes_at_water windows key kept marks old new within in_order le =
    let gone : flat_map (retractions key (at old) (at new)) (enumerate_from 0 windows) ≡ [] = flat_map_none (retractions key (at old) (at new)) (enumerate_from 0 windows) (λ w c. none_retracted_at_water w.0 key (w.1).func (instances_of (w.1).kind kept marks) old new le) in
    let come : flat_map (emissions key (at old) (at new)) (enumerate_from 0 windows) ≡ flat_map (completions key (at old) new) (enumerate_from 0 windows) = flat_map_same (emissions key (at old) (at new)) (completions key (at old) new) (enumerate_from 0 windows) (λ w c. emitted_at_water w.0 key (w.1).func (instances_of (w.1).kind kept marks) old new (rise w (enumerate_members 0 windows w c)) le) in
    λ i. gone i ++ come i
  where
    at : ℕ → Moment
    at water = record { kept = kept; marks = marks; water = water }

    rise : (w : ℕ × Def) → Contains windows w.1 → RiseByStart (instances_of (w.1).kind kept marks)
    rise w c = instances_rise (w.1).kind kept marks (All-contains (λ w. IsKindWithin w.kind) windows w.1 within c) in_order
