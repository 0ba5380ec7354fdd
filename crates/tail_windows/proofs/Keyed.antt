-- The changes of all keys, by two lists of keys.
use Rattle.std.proofs.Common.{◌≡◌, ◌∙◌, ℕ, Bool, true, false, cond, List, [], ◌∷◌, ◌++◌, ap, sym, refl, subst, subst₂, ⊎_elim, Ordering, Option, None, Some}
use Rattle.std.specs.Prelude.{filter, is_some, unwrap_or}
use Rattle.std.specs.BTreeMap.{is_at}
use Rattle.std.specs.Cmp.{IsTotalOrder}
use Rattle.std.specs.Cmp.Lexicographic.{slice_cmp}
use Rattle.std.specs.List.{Contains, flat_map}
use Rattle.std.specs.List.Sorted.{IsStrictlySortedBy}
use Rattle.std.specs.Map.{lookup}
use Rattle.std.specs.Ordering.{nat_cmp}
use Rattle.std.specs.Str.{bytes_eq}
use Rattle.std.specs.declared.cmp.Ordering.TheVariants.{Less}
use Rattle.std.proofs.lemmas.Bool.{false≢true, false_from_ne_true}
use Rattle.std.proofs.lemmas.Cmp.{nat_list_cmp_total}
use Rattle.std.proofs.lemmas.List.{append-nil}
use Rattle.std.proofs.lemmas.List.Kept.{IsStrictlySortedBy-filter}
use Rattle.std.proofs.lemmas.Map.Keys.{sorted_tail}
use Rattle.std.proofs.lemmas.Map.Lookups.{exact_bytes}
use Rattle.std.proofs.lemmas.Map.Views.{tells_apart}
use Rattle.stream_base.specs.declared.what.What.{What}
use Rattle.stream_base.specs.declared.what.What.TheVariants.{Tuple, Mark, Water, Idle, End}
use Rattle.stream_base.specs.Model.What.{key_in, tuple_in}
use Rattle.stream_base.proofs.ChangeFacts.{flat_map_none}
use Rattle.stream_base.proofs.Members.{filter_has, filter_members}
use Rattle.stream_base.proofs.Rising.{none_in_nil, below_tail, not_below_itself, Contains-cons_cases, same_members_same_list}
use Rattle.model_laws.proofs.Absent.{bytes_eq_true, is_key_or_not}
use Rattle.tail_windows.specs.Following.{list_of}
use Rattle.tail_windows.specs.declared.sample.Sample.{Sample}

has_some : {Y : Type 0} → List Y → Bool
has_some [] = false
has_some (y ∷ ys) = true

none_left : {Y : Type 0} (ys : List Y) → has_some ys ≡ false → ys ≡ []
unfolding has_some
none_left [] h = refl
none_left (y ∷ ys) h = absurd (false≢true (sym h))

some_left : {Y : Type 0} (ys : List Y) → has_some ys ≡ true → ys ≡ [] → ⊥
unfolding has_some
some_left ys h e = false≢true (sym (ap has_some e) ∙ h)

flat_map_filter : {X Y : Type 0} (f : X → List Y) (xs : List X) → flat_map f (filter (λ x. has_some (f x)) xs) ≡ flat_map f xs
flat_map_filter f [] = refl
flat_map_filter f (x ∷ xs) = by (has_some (f x)) refl (flat_map_filter f xs)
  where
    by : (b : Bool) → has_some (f x) ≡ b → flat_map f (filter (λ x. has_some (f x)) xs) ≡ flat_map f xs
        → flat_map f (cond b (x ∷ filter (λ x. has_some (f x)) xs) (filter (λ x. has_some (f x)) xs)) ≡ f x ++ flat_map f xs
    by true e rest = ap (λ l. f x ++ l) rest
    by false e rest = rest ∙ ap (λ l. l ++ flat_map f xs) (sym (none_left (f x) e))

-- two lists of keys that differ in keys of which nothing comes give the same
pub same_flat : {Y : Type 0} (f : List ℕ → List Y) (one two : List (List ℕ)) → IsStrictlySortedBy (slice_cmp nat_cmp) one → IsStrictlySortedBy (slice_cmp nat_cmp) two
    → ((k : List ℕ) → ¬ Contains one k → f k ≡ []) → ((k : List ℕ) → ¬ Contains two k → f k ≡ []) → flat_map f one ≡ flat_map f two
same_flat f one two s t a b =
    sym (flat_map_filter f one)
    ∙ ap (flat_map f) (same_members_same_list nat_list_cmp_total (filter some one) (filter some two) (IsStrictlySortedBy-filter (slice_cmp nat_cmp) some one s) (IsStrictlySortedBy-filter (slice_cmp nat_cmp) some two t)
    (λ k c. over two k b (filter_members some one k c).1)
    (λ k c. over one k a (filter_members some two k c).1))
    ∙ flat_map_filter f two
  where
    some : List ℕ → Bool
    some k = has_some (f k)

    over : (cs : List (List ℕ)) (k : List ℕ) → ((k : List ℕ) → ¬ Contains cs k → f k ≡ []) → has_some (f k) ≡ true → Contains (filter (λ k. has_some (f k)) cs) k
    over cs k none h = ⊎_elim
        (λ there. filter_has (λ k. has_some (f k)) cs k there h)
        (λ absent. absurd (some_left (f k) h (none k absent)))
        (is_key_or_not k cs)

none_of : {X : Type 0} (o : Option X) → is_some o ≡ false → o ≡ None
none_of None h = refl
none_of (Some x) h = absurd (false≢true (sym h))

-- an empty list for a key that isn't there changes nothing
pub empty_is_none : (old new : List (List ℕ × List Sample)) (key : List ℕ) (l : List Sample) → l ≡ [] → is_some (lookup (is_at (slice_cmp nat_cmp key)) old) ≡ false
    → ((q : List ℕ) → lookup (is_at (slice_cmp nat_cmp q)) new ≡ cond (is_at (slice_cmp nat_cmp key) q) (Some l) (lookup (is_at (slice_cmp nat_cmp q)) old))
    → (q : List ℕ) → list_of new q ≡ list_of old q
empty_is_none old new key l empty absent put q = ap (λ o. unwrap_or o []) (put q) ∙ by (is_at (slice_cmp nat_cmp key) q) refl
  where
    by : (b : Bool) → is_at (slice_cmp nat_cmp key) q ≡ b → unwrap_or (cond b (Some l) (lookup (is_at (slice_cmp nat_cmp q)) old)) [] ≡ list_of old q
    by true at =
        let same : key ≡ q = tells_apart exact_bytes key q at in
        empty ∙ sym (ap (λ o. unwrap_or o []) (none_of (lookup (is_at (slice_cmp nat_cmp key)) old) absent)) ∙ ap (list_of old) same
    by false at = refl

-- a key's own list, or another's
pub own_or_other : (lists : List (List ℕ × List Sample)) (key other : List ℕ) → cond (is_at (slice_cmp nat_cmp key) other) (list_of lists key) (list_of lists other) ≡ list_of lists other
own_or_other lists key other = by (is_at (slice_cmp nat_cmp key) other) refl
  where
    by : (b : Bool) → is_at (slice_cmp nat_cmp key) other ≡ b → cond b (list_of lists key) (list_of lists other) ≡ list_of lists other
    by true at = ap (list_of lists) (tells_apart exact_bytes key other at)
    by false at = refl

-- ---- one key of a journal
pub flat_map_one : {X Y : Type 0} {cmp : X → X → Ordering} (o : IsTotalOrder cmp) (f : X → List Y) (xs : List X) (x : X) → IsStrictlySortedBy cmp xs → Contains xs x → ((y : X) → (y ≡ x → ⊥) → f y ≡ []) → flat_map f xs ≡ f x
flat_map_one o f [] x s c h = absurd (none_in_nil x c)
flat_map_one {cmp = cmp} o f (z ∷ xs) x s c h =
    ⊎_elim
    (λ e. ap (λ l. f z ++ l) (flat_map_none f xs (λ y d. h y (λ g. not_below_itself o x (subst₂ (λ a b. cmp a b ≡ Less) e g (below_tail o z xs s y d))))) ∙ append-nil (f z) ∙ ap f e)
    (λ d. ap (λ l. l ++ flat_map f xs) (h z (λ e. not_below_itself o x (subst (λ a. cmp a x ≡ Less) e (below_tail o z xs s x d)))) ∙ flat_map_one o f xs x (sorted_tail cmp z xs s) d h)
    (Contains-cons_cases z xs x c)

pub other_tuple : (key of : List ℕ) (position : ℕ) (what : What) → key_in what ≡ Some of → (key ≡ of → ⊥) → tuple_in key position what ≡ None
other_tuple key of position (Tuple k time value) h ne = ap (λ b. cond b (Some (record { position = position; time = time; value = value })) None) (false_from_ne_true (bytes_eq k key) (λ e. ne (let same : k ≡ of = cc in sym (bytes_eq_true k key e) ∙ same)))
other_tuple key of position (Mark k time) h ne = refl
other_tuple key of position (Water time) h ne = refl
other_tuple key of position Idle h ne = refl
other_tuple key of position End h ne = refl
