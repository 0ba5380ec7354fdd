-- A list that is sorted is the one list in strict order with its elements, where there is such a list.
use Rattle.std.proofs.Common.{◌≡◌, ◌∙◌, ℕ, ◌+◌, ◌≤◌, Bool, true, false, List, [], ◌∷◌, ap, sym, refl, subst, arith, Ordering}
use Rattle.std.specs.Prelude.{◌≢◌}
use Rattle.std.specs.declared.cmp.Ordering.TheVariants.{Less, Equal, Greater}
use denote.Ref.{Bor}
use denote.Param.Members.{Mut}
use Rattle.std.specs.Cmp.{IsStrictWeakOrder, IsTotalOrder}
use Rattle.std.specs.Fn.{Called, ComparesAs}
use Rattle.std.specs.List.{AllPairs, Contains, sum_by}
use Rattle.std.specs.List.Sorted.{IsPermutation, IsSortedBy, IsStrictlySortedBy}
use Rattle.std.specs.Ordering.{is_lt, ordering_reverse}
use Rattle.std.proofs.lemmas.Cmp.{tied_itself}
use Rattle.std.proofs.lemmas.Fn.{always_returns_same}
use Rattle.std.proofs.lemmas.List.Sums.{get_or-le-sum_by, sum_by-cons}
use Rattle.std.proofs.lemmas.List.Sorted.{Contains-permutation, IsPermutation-sym, IsPermutation-trans, ranks_by, sorted_far, sum_by-IsPermutation}
use Rattle.std.proofs.lemmas.Map.Keys.{sorted_tail}
use Rattle.stream_base.proofs.Distinct.{All_from_members}
use Rattle.stream_base.proofs.Rising.{Contains-head, Contains-tail, below_tail, same_members_same_list, sorted_cons, sorted_nil}
use Rattle.final_rows.proofs.Pairs.{pairs_back, pairs_cross}

-- one for a tie, and else nothing
abbrev tie : Ordering → ℕ
tie Less = 0
tie Equal = 1
tie Greater = 0

sum_of_none : {X : Type 0} (f : X → ℕ) (xs : List X) → ((x : X) → Contains xs x → f x ≡ 0) → sum_by f xs ≡ 0
sum_of_none f [] h = refl
sum_of_none f (x ∷ xs) h =
    let first : f x ≡ 0 = h x (Contains-head x xs) in
    let later : sum_by f xs ≡ 0 = sum_of_none f xs (λ y c. h y (Contains-tail x xs y c)) in
    omega (arith, sum_by-cons f x xs)

in_the_sum : {X : Type 0} (f : X → ℕ) (xs : List X) (x : X) → Contains xs x → f x ≤ sum_by f xs
in_the_sum f xs x c = subst (λ y. f y ≤ sum_by f xs) c.2 (get_or-le-sum_by f xs c.0 x c.1)

module _ {X : Type 0} (cmp : X → X → Ordering) (o : IsTotalOrder cmp) where
  at_most_one_tie : (xs : List X) → IsStrictlySortedBy cmp xs → (x : X) → sum_by (λ y. tie (cmp x y)) xs ≤ 1
  at_most_one_tie [] s x = omega arith
  at_most_one_tie (y ∷ ys) s x = subst (λ n. n ≤ 1) (sym (sum_by-cons (λ z. tie (cmp x z)) y ys)) (by (cmp x y) refl (at_most_one_tie ys (sorted_tail cmp y ys s) x))
    where
      by : (r : Ordering) → cmp x y ≡ r → sum_by (λ z. tie (cmp x z)) ys ≤ 1 → tie r + sum_by (λ z. tie (cmp x z)) ys ≤ 1
      by Less e h = omega arith
      by Equal e h = let none : sum_by (λ z. tie (cmp x z)) ys ≡ 0 = sum_of_none (λ z. tie (cmp x z)) ys (λ z c. ap tie (o.congr x y z e ∙ below_tail o y ys s z c)) in omega arith
      by Greater e h = omega arith

  not_above : (x y : X) → is_lt (cmp y x) ≡ false → cmp x y ≢ Equal → cmp x y ≡ Less
  not_above x y low apart = by (cmp y x) refl low
    where
      by : (r : Ordering) → cmp y x ≡ r → is_lt r ≡ false → cmp x y ≡ Less
      by Less e h = absurd (let no : true ≡ false = h in cc)
      by Equal e h = absurd (apart (o.antisymm x y ∙ ap ordering_reverse e))
      by Greater e h = o.antisymm x y ∙ ap ordering_reverse e

  strict_from : (xs : List X) → AllPairs (λ x y. is_lt (cmp y x) ≡ false) xs → ((x : X) → sum_by (λ y. tie (cmp x y)) xs ≤ 1) → IsStrictlySortedBy cmp xs
  strict_from [] up few = sorted_nil o
  strict_from (x ∷ xs) up few =
      sorted_cons o x xs (All_from_members (λ y. cmp x y ≡ Less) xs above)
      (strict_from xs (pairs_back (λ x y. is_lt (cmp y x) ≡ false) (x ∷ []) xs up) (λ z. omega (arith, few z, sum_by-cons (λ y. tie (cmp z y)) x xs)))
    where
      above : (y : X) → Contains xs y → cmp x y ≡ Less
      above y c =
          not_above x y (pairs_cross (λ x y. is_lt (cmp y x) ≡ false) (x ∷ []) xs up x y (Contains-head x []) c)
          (λ e.
          let own : tie (cmp x x) ≡ 1 = ap tie (tied_itself o x) in
          let other : tie (cmp x y) ≡ 1 = ap tie e in
          let within : tie (cmp x y) ≤ sum_by (λ z. tie (cmp x z)) xs = in_the_sum (λ z. tie (cmp x z)) xs y c in
          omega (arith, few x, sum_by-cons (λ z. tie (cmp x z)) x xs))

  pub sorted_is_ordered : (old new ordered : List X) → IsPermutation old new → IsSortedBy (λ x y. is_lt (cmp x y)) new → IsPermutation old ordered → IsStrictlySortedBy cmp ordered → new ≡ ordered
  sorted_is_ordered old new ordered moved up same strict =
      let both : IsPermutation ordered new = IsPermutation-trans ordered old new (IsPermutation-sym old ordered same) moved in
      let back : IsPermutation new ordered = IsPermutation-sym ordered new both in
      same_members_same_list o new ordered
      (strict_from new (λ i j d lt l. sorted_far (λ x y. is_lt (cmp x y)) (ranks_by o (λ (x : X). x)) new up i j d (omega arith) l)
      (λ x. omega (arith, at_most_one_tie ordered strict x, sum_by-IsPermutation (λ y. tie (cmp x y)) ordered new both)))
      strict (λ x c. Contains-permutation new ordered x back c) (λ x c. Contains-permutation ordered new x both c)

  -- what a sort says of a closure that compares so
  pub sorted_by_calls : {F : Type 0} {g : Mut F (Bor X × (Bor X × Unit {0})) Ordering} {f : F} (old new ordered : List X) → IsPermutation old new
      → ((lt : X → X → Bool) → IsStrictWeakOrder lt → ComparesAs g lt f → IsSortedBy lt new)
      → ((a : Bor X × (Bor X × Unit {0})) (r : Ordering) (f' : F) → Called g f a r f' → (r ≡ cmp a.0.now a.1.0.now) × (f' ≡ f))
      → IsPermutation old ordered → IsStrictlySortedBy cmp ordered → new ≡ ordered
  sorted_by_calls {g = g} {f = f} old new ordered moved up calls =
      sorted_is_ordered old new ordered moved
      (up (λ x y. is_lt (cmp x y)) (ranks_by o (λ (x : X). x)) (always_returns_same g (λ a r. is_lt r ≡ is_lt (cmp a.0.now a.1.0.now)) f (λ a r f' k. (ap is_lt (calls a r f' k).0, (calls a r f' k).1))))
