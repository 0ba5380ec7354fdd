-- Walks over instances that run on.
use Rattle.std.proofs.Common.{◌≡◌, ◌∙◌, ℕ, ◌+◌, ◌<◌, ◌≤◌, Bool, true, false, cond, List, [], ◌∷◌, ap, sym, refl, subst, arith, None, Some}
use Rattle.std.specs.Prelude.{◌&&◌, nat_le, nat_lt}
use Rattle.std.specs.List.{Contains, filter, find}
use Rattle.std.proofs.lemmas.Bool.{leb-true, leb-false, ltb-true, ltb-false}
use Rattle.std.proofs.lemmas.Bool.Decides.{nat_tests}
use Rattle.stream_base.specs.declared.kept.Kept.{Kept}
use Rattle.stream_base.specs.declared.kind.Kind.{Kind}
use Rattle.stream_base.specs.declared.limits.TheConstants.{TIME_MAX}
use Rattle.stream_base.specs.Kinds.{IsKindWithin}
use Rattle.stream_base.specs.Laws.{becomes_complete}
use Rattle.stream_base.specs.Model.Windows.{Instance, instances_of, is_complete}
use Rattle.stream_base.proofs.Members.{filter_same}
use Rattle.stream_base.proofs.Rising.{Contains-head, Contains-tail}
use Rattle.plain_windows.specs.declared.extent.Extent.{Extent}
use Rattle.plain_windows.specs.Extents.{AreKeyLists, IsExtentIn, instance_in}
use Rattle.plain_windows.specs.Walks.{is_left, left_of, IsNext, IsFirstLeft}
use Rattle.plain_windows.proofs.Bounds.{IsBefore, RunOn, key_lists_run_on, starts_within}

-- what was found passes the test, and is there
pub found : {X : Type 0} (p : X → Bool) (xs : List X) (x : X) → find p xs ≡ Some x → Contains xs x × (p x ≡ true)
found p [] x e = cc
found {X} p (y ∷ xs) x e = by (p y) refl e (λ f. found p xs x f)
  where
    by : (b : Bool) → p y ≡ b → cond b (Some y) (find p xs) ≡ Some x → (find p xs ≡ Some x → Contains xs x × (p x ≡ true)) → Contains (y ∷ xs) x × (p x ≡ true)
    by true h f later = let same : y ≡ x = cc in (subst (λ z. Contains (y ∷ xs) z) same (Contains-head y xs), subst (λ z. p z ≡ true) same h)
    by false h f later = let m : Contains xs x × (p x ≡ true) = later f in (Contains-tail y xs x m.0, m.1)

-- none passes a test that each refuses
pub none_passes : {X : Type 0} (p : X → Bool) (xs : List X) → ((x : X) → Contains xs x → p x ≡ false) → filter p xs ≡ []
none_passes p [] h = refl
none_passes p (x ∷ xs) h =
    ap (λ b. cond b (x ∷ filter p xs) (filter p xs)) (h x (Contains-head x xs)) ∙ none_passes p xs (λ y c. h y (Contains-tail x xs y c))

pub find_none : {X : Type 0} (p : X → Bool) (xs : List X) → ((x : X) → Contains xs x → p x ≡ false) → find p xs ≡ None
find_none p [] h = refl
find_none p (x ∷ xs) h =
    ap (λ b. cond b (Some x) (find p xs)) (h x (Contains-head x xs)) ∙ find_none p xs (λ y c. h y (Contains-tail x xs y c))

late : (from water low bound : ℕ) → water < bound → (nat_le from low && nat_le bound water) ≡ false
late from water low bound h = grind (arith, nat_tests)

early : (from water low bound : ℕ) → low < from → (nat_le from low && nat_le bound water) ≡ false
early from water low bound h = grind (arith, nat_tests)

here : (from water low bound : ℕ) → from ≤ low → bound ≤ water → (nat_le from low && nat_le bound water) ≡ true
here from water low bound h k = grind (arith, nat_tests)

both : (from other water low bound : ℕ) → from ≤ low → other ≤ low → (nat_le from low && nat_le bound water) ≡ (nat_le other low && nat_le bound water)
both from other water low bound h k = grind (arith, nat_tests)

-- where none starts there, none is left
pub none_left : (is : List Instance) (from water : ℕ) → find (λ i. nat_le from i.low) is ≡ None → filter (is_left from water) is ≡ []
none_left [] from water e = refl
none_left (x ∷ is) from water e = by (nat_le from x.low) refl e (λ f. none_left is from water f)
  where
    by : (b : Bool) → nat_le from x.low ≡ b → cond b (Some x) (find (λ i. nat_le from i.low) is) ≡ None → (find (λ i. nat_le from i.low) is ≡ None → filter (is_left from water) is ≡ []) → filter (is_left from water) (x ∷ is) ≡ []
    by true h f later = cc
    by false h f later =
        ap (λ b. cond b (x ∷ filter (is_left from water) is) (filter (is_left from water) is)) (early from water x.low x.bound (leb-false from x.low h))
        ∙ later f

-- where the first that starts there isn't complete, none is left
pub late_left : (is : List Instance) (from water : ℕ) (i : Instance) → RunOn is → find (λ j. nat_le from j.low) is ≡ Some i → water < i.bound → filter (is_left from water) is ≡ []
late_left [] from water i r e lt = refl
late_left (x ∷ is) from water i r e lt = by (nat_le from x.low) refl e (λ f. late_left is from water i r.1 f lt)
  where
    by : (b : Bool) → nat_le from x.low ≡ b → cond b (Some x) (find (λ j. nat_le from j.low) is) ≡ Some i → (find (λ j. nat_le from j.low) is ≡ Some i → filter (is_left from water) is ≡ []) → filter (is_left from water) (x ∷ is) ≡ []
    by true h f later =
        let same : x ≡ i = cc in
        let above : water < x.bound = subst (λ (j : Instance). water < j.bound) (sym same) lt in
        ap (λ b. cond b (x ∷ filter (is_left from water) is) (filter (is_left from water) is)) (late from water x.low x.bound above)
        ∙ none_passes (is_left from water) is (λ j c. late from water j.low j.bound (omega (arith, (r.0 j c).1)))
    by false h f later =
        ap (λ b. cond b (x ∷ filter (is_left from water) is) (filter (is_left from water) is)) (early from water x.low x.bound (leb-false from x.low h))
        ∙ later f

-- where the first that starts there is complete, it is the first that is left, and the others start behind it
pub next_left : (is : List Instance) (from water : ℕ) (i : Instance) → RunOn is → find (λ j. nat_le from j.low) is ≡ Some i → i.bound ≤ water → filter (is_left from water) is ≡ i ∷ filter (is_left (i.low + 1) water) is
next_left [] from water i r e le = cc
next_left (x ∷ is) from water i r e le = by (nat_le from x.low) refl e (λ f. next_left is from water i r.1 f le)
  where
    skip : x.low < i.low + 1 → filter (is_left (i.low + 1) water) (x ∷ is) ≡ filter (is_left (i.low + 1) water) is
    skip lt = ap (λ b. cond b (x ∷ filter (is_left (i.low + 1) water) is) (filter (is_left (i.low + 1) water) is)) (early (i.low + 1) water x.low x.bound lt)

    by : (b : Bool) → nat_le from x.low ≡ b → cond b (Some x) (find (λ j. nat_le from j.low) is) ≡ Some i → (find (λ j. nat_le from j.low) is ≡ Some i → filter (is_left from water) is ≡ i ∷ filter (is_left (i.low + 1) water) is) → filter (is_left from water) (x ∷ is) ≡ i ∷ filter (is_left (i.low + 1) water) (x ∷ is)
    by true h f later =
        let same : x ≡ i = cc in
        let lows : x.low ≡ i.low = ap (λ (j : Instance). j.low) same in
        let bounds : x.bound ≡ i.bound = ap (λ (j : Instance). j.bound) same in
        let onward : from ≤ x.low = leb-true from x.low h in
        ap (λ b. cond b (x ∷ filter (is_left from water) is) (filter (is_left from water) is)) (here from water x.low x.bound onward (omega arith))
        ∙ (λ k. same k ∷ filter_same (is_left from water) (is_left (i.low + 1) water) is (λ j c. both from (i.low + 1) water j.low j.bound (omega (arith, (r.0 j c).0)) (omega (arith, (r.0 j c).0))) k)
        ∙ ap (λ l. i ∷ l) (sym (skip (omega arith)))
    by false h f later =
        let before : x.low < from = leb-false from x.low h in
        let onward : from ≤ i.low = leb-true from i.low (found (λ j. nat_le from j.low) is i f).1 in
        ap (λ b. cond b (x ∷ filter (is_left from water) is) (filter (is_left from water) is)) (early from water x.low x.bound before)
        ∙ later f
        ∙ ap (λ l. i ∷ l) (sym (skip (omega arith)))

-- ---- what is found of a key's lists
pub none_is_left : (kind : Kind) (kept : List Kept) (marks : List ℕ) (from water : ℕ) → find (λ i. nat_le from i.low) (instances_of kind kept marks) ≡ None → IsFirstLeft kind kept marks from water None
none_is_left kind kept marks from water e = none_left (instances_of kind kept marks) from water e

pub late_is_left : (kind : Kind) (kept : List Kept) (marks : List ℕ) (from water : ℕ) (e : Extent) → IsKindWithin kind → AreKeyLists kept marks → find (λ i. nat_le from i.low) (instances_of kind kept marks) ≡ Some (instance_in kept e) → water < e.bound → IsFirstLeft kind kept marks from water None
late_is_left kind kept marks from water e k h f lt = late_left (instances_of kind kept marks) from water (instance_in kept e) (key_lists_run_on kind kept marks k h) f lt

pub first_is_left : (kind : Kind) (kept : List Kept) (marks : List ℕ) (from water : ℕ) (e : Extent) → IsKindWithin kind → AreKeyLists kept marks → find (λ i. nat_le from i.low) (instances_of kind kept marks) ≡ Some (instance_in kept e) → IsExtentIn kept e → e.bound ≤ water → IsNext kind kept marks from water e
first_is_left kind kept marks from water e k h f inside le =
    let m : Contains (instances_of kind kept marks) (instance_in kept e) × (nat_le from e.low ≡ true) = found (λ j. nat_le from j.low) (instances_of kind kept marks) (instance_in kept e) f in
    record {
      inside = inside;
      first = next_left (instances_of kind kept marks) from water (instance_in kept e) (key_lists_run_on kind kept marks k h) f le;
      onward = leb-true from e.low m.1;
      low = starts_within kind kept marks k h (instance_in kept e) m.0;
    }

-- ---- where completions begin
due_late : (old new low bound : ℕ) → bound ≤ old → (nat_lt old bound && nat_le bound new) ≡ false
due_late old new low bound h = grind (arith, nat_tests)

due_here : (from old new low bound : ℕ) → from ≤ low → old < bound → (nat_lt old bound && nat_le bound new) ≡ (nat_le from low && nat_le bound new)
due_here from old new low bound h k = grind (arith, nat_tests)

pub due_left : (is : List Instance) (old new : ℕ) (i : Instance) → RunOn is → find (λ j. nat_lt old j.bound) is ≡ Some i → filter (becomes_complete old new) is ≡ filter (is_left i.low new) is
due_left [] old new i r e = refl
due_left (x ∷ is) old new i r e = by (nat_lt old x.bound) refl e (λ f. due_left is old new i r.1 f)
  where
    by : (b : Bool) → nat_lt old x.bound ≡ b → cond b (Some x) (find (λ j. nat_lt old j.bound) is) ≡ Some i → (find (λ j. nat_lt old j.bound) is ≡ Some i → filter (becomes_complete old new) is ≡ filter (is_left i.low new) is) → filter (becomes_complete old new) (x ∷ is) ≡ filter (is_left i.low new) (x ∷ is)
    by true h f later =
        let same : x ≡ i = cc in
        let lows : x.low ≡ i.low = ap (λ (j : Instance). j.low) same in
        let above : old < x.bound = ltb-true old x.bound h in
        let first : becomes_complete old new x ≡ is_left i.low new x = due_here i.low old new x.low x.bound (omega arith) above in
        let rest : filter (becomes_complete old new) is ≡ filter (is_left i.low new) is =
        filter_same (becomes_complete old new) (is_left i.low new) is (λ j c. due_here i.low old new j.low j.bound (omega (arith, (r.0 j c).0)) (omega (arith, (r.0 j c).1))) in
        λ k. cond (first k) (x ∷ rest k) (rest k)
    by false h f later =
        let before : IsBefore x i = r.0 i (found (λ j. nat_lt old j.bound) is i f).0 in
        ap (λ b. cond b (x ∷ filter (becomes_complete old new) is) (filter (becomes_complete old new) is)) (due_late old new x.low x.bound (ltb-false old x.bound h))
        ∙ later f
        ∙ sym (ap (λ b. cond b (x ∷ filter (is_left i.low new) is) (filter (is_left i.low new) is)) (early i.low new x.low x.bound before.0))

pub none_due : (is : List Instance) (old new from : ℕ) → find (λ j. nat_lt old j.bound) is ≡ None → ((i : Instance) → Contains is i → i.low < from) → filter (becomes_complete old new) is ≡ filter (is_left from new) is
none_due [] old new from e h = refl
none_due (x ∷ is) old new from e h = by (nat_lt old x.bound) refl e (λ f. none_due is old new from f (λ j c. h j (Contains-tail x is j c)))
  where
    by : (b : Bool) → nat_lt old x.bound ≡ b → cond b (Some x) (find (λ j. nat_lt old j.bound) is) ≡ None → (find (λ j. nat_lt old j.bound) is ≡ None → filter (becomes_complete old new) is ≡ filter (is_left from new) is) → filter (becomes_complete old new) (x ∷ is) ≡ filter (is_left from new) (x ∷ is)
    by true k f later = cc
    by false k f later =
        ap (λ b. cond b (x ∷ filter (becomes_complete old new) is) (filter (becomes_complete old new) is)) (due_late old new x.low x.bound (ltb-false old x.bound k))
        ∙ later f
        ∙ sym (ap (λ b. cond b (x ∷ filter (is_left from new) is) (filter (is_left from new) is)) (early from new x.low x.bound (h x (Contains-head x is))))

pub due_is_left : (kind : Kind) (kept : List Kept) (marks : List ℕ) (old : ℕ) (e : Extent) → IsKindWithin kind → AreKeyLists kept marks → find (λ i. nat_lt old i.bound) (instances_of kind kept marks) ≡ Some (instance_in kept e) → (new : ℕ) → filter (becomes_complete old new) (instances_of kind kept marks) ≡ left_of kind kept marks e.low new
due_is_left kind kept marks old e k h f new = due_left (instances_of kind kept marks) old new (instance_in kept e) (key_lists_run_on kind kept marks k h) f

pub none_due_is_left : (kind : Kind) (kept : List Kept) (marks : List ℕ) (old from : ℕ) → IsKindWithin kind → AreKeyLists kept marks → TIME_MAX < from → find (λ i. nat_lt old i.bound) (instances_of kind kept marks) ≡ None → (new : ℕ) → filter (becomes_complete old new) (instances_of kind kept marks) ≡ left_of kind kept marks from new
none_due_is_left kind kept marks old from k h lt f new =
    none_due (instances_of kind kept marks) old new from f (λ i c. let low : i.low ≤ TIME_MAX = starts_within kind kept marks k h i c in omega arith)

-- at the first start all that stand are left
pub all_left : (is : List Instance) (water : ℕ) → filter (is_left 0 water) is ≡ filter (is_complete water) is
all_left is water = filter_same (is_left 0 water) (is_complete water) is (λ i c. from_zero i.low (is_complete water i))
  where
    from_zero : (low : ℕ) (b : Bool) → (nat_le 0 low && b) ≡ b
    from_zero low b = grind (arith, nat_tests)
