-- What a move of the watermark changes of a key whose state stands under an earlier one.
use Rattle.std.proofs.Common.{◌≡◌, ◌∙◌, ◌≤◌, ◌<◌, ℕ, Bool, true, false, cond, List, [], ◌∷◌, ◌++◌, map, ap, sym, refl, subst, arith, ⊎_elim}
use Rattle.std.specs.Prelude.{◌&&◌, nat_le, nat_lt}
use Rattle.std.specs.Cmp.Lexicographic.{slice_cmp}
use Rattle.std.specs.List.{All, Contains, enumerate_from, filter, flat_map}
use Rattle.std.specs.List.Sorted.{IsNonDecreasingBy, IsStrictlySortedBy}
use Rattle.std.specs.Ordering.{nat_cmp}
use Rattle.std.proofs.lemmas.Bool.{cases_lt, false_from_ne_true, and_cases, both_ways, leb-false, le-ltb, lt-ltb}
use Rattle.std.proofs.lemmas.Cmp.{nat_list_cmp_total}
use Rattle.std.proofs.lemmas.List.Kept.{IsStrictlySortedBy-filter}
use Rattle.stream_base.specs.Kinds.{IsKindWithin}
use Rattle.stream_base.specs.declared.change.Change.TheVariants.{New}
use Rattle.stream_base.specs.declared.def.Def.{Def}
use Rattle.stream_base.specs.declared.kept.Kept.{Kept}
use Rattle.stream_base.specs.Laws.{RiseByStart, becomes_complete, completions}
use Rattle.stream_base.specs.Model.Changes.{Moment, changes_between, row_of, standing_at}
use Rattle.stream_base.specs.Model.Windows.{Instance, instances_of, is_complete}
use Rattle.model_laws.proofs.Absent.{is_key_or_not}
use Rattle.stream_base.proofs.KindFacts.{no_instances}
use Rattle.stream_base.proofs.ChangeFacts.{changes_at_water, flat_map_same, no_changes}
use Rattle.stream_base.proofs.Distinct.{by_start_total}
use Rattle.stream_base.proofs.Members.{filter_has, filter_members, filter_same}
use Rattle.stream_base.proofs.Rising.{sorted_nil, none_in_nil, Contains-cons_cases, same_members_same_list}
use Rattle.stream_base.specs.Model.Moments.{moment}

-- ---- lists that are empty
append_none : {X : Type 0} (xs ys : List X) → xs ++ ys ≡ [] → (xs ≡ []) × (ys ≡ [])
append_none [] ys h = (refl, h)
append_none (x ∷ xs) ys h = cc

none_in_any : {X Y : Type 0} (f : X → List Y) (xs : List X) → flat_map f xs ≡ [] → (x : X) → Contains xs x → f x ≡ []
none_in_any f [] h x c = absurd (none_in_nil x c)
none_in_any f (y ∷ xs) h x c = ⊎_elim (λ e. ap f (sym e) ∙ (append_none (f y) (flat_map f xs) h).0) (λ d. none_in_any f xs (append_none (f y) (flat_map f xs) h).1 x d) (Contains-cons_cases y xs x c)

pub map_none : {X Y : Type 0} (f : X → Y) (xs : List X) → map f xs ≡ [] → xs ≡ []
map_none f [] h = refl
map_none f (x ∷ xs) h = cc

none_passes : {X : Type 0} (p : X → Bool) (xs : List X) → filter p xs ≡ [] → (x : X) → Contains xs x → p x ≡ false
none_passes p xs h x c = false_from_ne_true (p x) (λ t. none_there (subst (λ l. Contains l x) h (filter_has p xs x c t)))
  where
    none_there : Contains [] x → ⊥
    none_there d = none_in_nil x d

-- ---- one instance
-- where it isn't complete at a watermark, and doesn't become so on the way to a later one, its bound lies after that
still_open : (w mid : ℕ) (i : Instance) → w < i.bound → becomes_complete w mid i ≡ false → mid < i.bound
still_open w mid i l none =
    ⊎_elim
    (λ e. absurd (both_ways (nat_lt w i.bound) e (lt-ltb w i.bound l)))
    (λ e. leb-false i.bound mid e)
    (and_cases (nat_lt w i.bound) (nat_le i.bound mid) none)

-- so it becomes complete after it exactly where it does so from before
becomes_since : (w mid new : ℕ) (i : Instance) → w ≤ mid → becomes_complete w mid i ≡ false → becomes_complete mid new i ≡ becomes_complete w new i
becomes_since w mid new i le none =
    ap (λ b. b && nat_le i.bound new)
    (⊎_elim
    (λ l. lt-ltb mid i.bound (still_open w mid i l none) ∙ sym (lt-ltb w i.bound l))
    (λ l. le-ltb mid i.bound (omega arith) ∙ sym (le-ltb w i.bound l))
    (cases_lt w i.bound))

-- ---- one key
module _ (windows : List Def) (key : List ℕ) (kept : List Kept) (marks : List ℕ) (within : All (λ w. IsKindWithin w.kind) windows) (in_order : IsNonDecreasingBy (λ (x : Kept). x.time) kept) (w mid : ℕ) (le : w ≤ mid) (none : changes_between windows key (moment kept marks w) (moment kept marks mid) ≡ []) where
  -- no instance becomes complete on the way
  none_becomes : (n : ℕ × Def) → Contains (enumerate_from 0 windows) n → (i : Instance) → Contains (instances_of (n.1).kind kept marks) i → becomes_complete w mid i ≡ false
  none_becomes n c i d =
      let none_completed : flat_map (completions key (moment kept marks w) mid) (enumerate_from 0 windows) ≡ [] = sym (changes_at_water windows key kept marks w mid within in_order le) ∙ none in
      none_passes (becomes_complete w mid) (instances_of (n.1).kind kept marks)
      (map_none (λ (j : Instance). New (row_of n.0 key (n.1).func j)) (filter (becomes_complete w mid) (instances_of (n.1).kind kept marks)) (none_in_any (completions key (moment kept marks w) mid) (enumerate_from 0 windows) none_completed n c))
      i d

  -- what a further move changes is the same from either watermark
  pub changes_since : (new : ℕ) → mid ≤ new → changes_between windows key (moment kept marks mid) (moment kept marks new) ≡ changes_between windows key (moment kept marks w) (moment kept marks new)
  changes_since new further =
      changes_at_water windows key kept marks mid new within in_order further
      ∙ flat_map_same (completions key (moment kept marks mid) new) (completions key (moment kept marks w) new) (enumerate_from 0 windows)
      (λ n c. ap (map (λ i. New (row_of n.0 key (n.1).func i))) (filter_same (becomes_complete mid new) (becomes_complete w new) (instances_of (n.1).kind kept marks) (λ i d. becomes_since w mid new i le (none_becomes n c i d))))
      ∙ sym (changes_at_water windows key kept marks w new within in_order (omega arith))

-- ---- a key of which nothing is kept
nothing_at : (def : Def) (m : Moment) → m.kept ≡ [] → standing_at def m ≡ []
nothing_at def m none = ap (λ k. filter (is_complete m.water) (instances_of def.kind k m.marks)) none ∙ ap (filter (is_complete m.water)) (no_instances def.kind m.marks)

pub no_changes_of_none : (windows : List Def) (key : List ℕ) (old new : Moment) → old.kept ≡ [] → new.kept ≡ [] → changes_between windows key old new ≡ []
no_changes_of_none windows key old new a b =
    no_changes windows key old new
    (λ def c. subst RiseByStart (sym (nothing_at def old a)) (sorted_nil by_start_total))
    (λ def c. nothing_at def old a ∙ sym (nothing_at def new b))

-- ---- keys
abbrev is_some_of : {Y : Type 0} → List Y → Bool
is_some_of [] = false
is_some_of (y ∷ ys) = true

some_alone : {X Y : Type 0} (f : X → List Y) (xs : List X) → flat_map f xs ≡ flat_map f (filter (λ x. is_some_of (f x)) xs)
some_alone f [] = refl
some_alone f (x ∷ xs) = by (f x) refl (some_alone f xs)
  where
    by : (ys : List _) → f x ≡ ys → flat_map f xs ≡ flat_map f (filter (λ x. is_some_of (f x)) xs) → f x ++ flat_map f xs ≡ flat_map f (cond (is_some_of (f x)) (x ∷ filter (λ x. is_some_of (f x)) xs) (filter (λ x. is_some_of (f x)) xs))
    by [] e rest = subst (λ l. l ++ flat_map f xs ≡ flat_map f (cond (is_some_of l) (x ∷ filter (λ x. is_some_of (f x)) xs) (filter (λ x. is_some_of (f x)) xs))) (sym e) rest
    by (y ∷ ys) e rest = subst (λ l. l ++ flat_map f xs ≡ flat_map f (cond (is_some_of l) (x ∷ filter (λ x. is_some_of (f x)) xs) (filter (λ x. is_some_of (f x)) xs))) (sym e) (λ i. sym e i ++ rest i)

-- two lists of keys in order give the same where each key of one alone gives nothing
pub same_for_keys : {Y : Type 0} (f : List ℕ → List Y) (xs ys : List (List ℕ)) → IsStrictlySortedBy (slice_cmp nat_cmp) xs → IsStrictlySortedBy (slice_cmp nat_cmp) ys
    → ((x : List ℕ) → Contains xs x → (Contains ys x → ⊥) → f x ≡ []) → ((y : List ℕ) → Contains ys y → (Contains xs y → ⊥) → f y ≡ [])
    → flat_map f xs ≡ flat_map f ys
same_for_keys f xs ys s t a b =
    some_alone f xs
    ∙ ap (flat_map f) (same_members_same_list nat_list_cmp_total (filter p xs) (filter p ys) (IsStrictlySortedBy-filter (slice_cmp nat_cmp) p xs s) (IsStrictlySortedBy-filter (slice_cmp nat_cmp) p ys t) (over xs ys a) (over ys xs b))
    ∙ sym (some_alone f ys)
  where
    p : List ℕ → Bool
    p x = is_some_of (f x)

    over : (xs ys : List (List ℕ)) → ((x : List ℕ) → Contains xs x → (Contains ys x → ⊥) → f x ≡ []) → (x : List ℕ) → Contains (filter p xs) x → Contains (filter p ys) x
    over xs ys alone x c =
        let m : Contains xs x × (p x ≡ true) = filter_members p xs x c in
        ⊎_elim
        (λ d. filter_has p ys x d m.1)
        (λ no. absurd (both_ways (p x) (ap is_some_of (alone x m.0 no)) m.1))
        (is_key_or_not x ys)
