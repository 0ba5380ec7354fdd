-- Pairs of a list's elements, of lists put together, and of entries by their sources.
use Rattle.std.proofs.Common.{◌≡◌, ◌∙◌, ℕ, zero, suc, ◌+◌, ◌<◌, Bool, true, false, cond, List, [], ◌∷◌, ◌++◌, length, get_or, map, sym, refl, subst, subst₂, inl, inr, arith}
use Rattle.std.specs.Prelude.{◌==◌, ◌≢◌}
use Rattle.std.specs.List.{AllPairs, Contains}
use Rattle.std.proofs.lemmas.Bool.{cases_eq, eq-eqb}
use Rattle.std.proofs.lemmas.List.{get_or-append-add, get_or-map, length-map, get_or_append_left, get_or_default, length-append}
use Rattle.std.proofs.lemmas.List.Elements.{Contains-append_cases, Contains-get_or}
use Rattle.std.proofs.lemmas.List.Kept.{AllPairs-cons}
use Rattle.stream_base.specs.declared.entry.Entry.{Entry}
use Rattle.stream_base.specs.Model.Final.{all_entries}
use Rattle.stream_base.specs.Model.Routes.{entries_from}
use Rattle.stream_base.proofs.Distinct.{All_from_members}
use Rattle.stream_base.proofs.Members.{filter_has, flat_map_has}
use Rattle.stream_base.proofs.Rising.{Contains-head, Contains-tail}

module _ {X : Type 0} (R : X → X → Type 0) where
  pub pairs_front : (xs ys : List X) → AllPairs R (xs ++ ys) → AllPairs R xs
  pairs_front xs ys h = λ i j d lt l. subst₂ R (get_or_append_left xs ys d i (omega arith)) (get_or_append_left xs ys d j l) (h i j d lt (omega (arith, length-append xs ys)))

  pub pairs_back : (xs ys : List X) → AllPairs R (xs ++ ys) → AllPairs R ys
  pairs_back xs ys h = λ i j d lt l. subst₂ R (get_or-append-add xs ys i d) (get_or-append-add xs ys j d) (h (length xs + i) (length xs + j) d (omega arith) (omega (arith, length-append xs ys)))

  pub pairs_cross : (xs ys : List X) → AllPairs R (xs ++ ys) → (x y : X) → Contains xs x → Contains ys y → R x y
  pairs_cross xs ys h x y c d =
      subst₂ R (get_or_append_left xs ys x c.0 c.1 ∙ c.2) (get_or-append-add xs ys d.0 x ∙ get_or_default ys d.0 x y d.1 ∙ d.2)
      (h c.0 (length xs + d.0) x (omega (arith, c.1)) (omega (arith, d.1, length-append xs ys)))

  pub pairs_none : AllPairs R []
  pairs_none = λ i j d lt l. absurd (omega arith)

-- of the entries of all sources: those of one source, and those of two
module _ (R : Entry → Entry → Type 0) where
  pub of_source : (sources : List (List Entry)) → AllPairs R (all_entries sources) → (s : ℕ) → s < length sources → AllPairs R (get_or sources s [])
  of_source [] h s l = absurd (omega arith)
  of_source (xs ∷ rest) h zero l = pairs_front R xs (all_entries rest) h
  of_source (xs ∷ rest) h (suc s) l = of_source rest (pairs_back R xs (all_entries rest) h) s (omega arith)

  pub across_sources : (sources : List (List Entry)) → AllPairs R (all_entries sources) → (s t : ℕ) → s < t → t < length sources → (x y : Entry) → Contains (get_or sources s []) x → Contains (get_or sources t []) y → R x y
  across_sources [] h s t lt l x y c d = absurd (omega arith)
  across_sources (xs ∷ rest) h s zero lt l x y c d = absurd (omega arith)
  across_sources (xs ∷ rest) h zero (suc t) lt l x y c d = pairs_cross R xs (all_entries rest) h x y c (flat_map_has (λ (ys : List Entry). ys) rest (get_or rest t []) y (Contains-get_or rest t [] (omega arith)) d)
  across_sources (xs ∷ rest) h (suc s) (suc t) lt l x y c d = across_sources rest (pairs_back R xs (all_entries rest) h) s t (omega arith) (omega arith) x y c d

  -- of the entries of a journal, source by source
  pub by_source : (xs : List Entry) → ((z : Entry) → Contains xs z → AllPairs R (entries_from z.source xs)) → ((x y : Entry) → Contains xs x → Contains xs y → x.source ≢ y.source → R x y) → AllPairs R xs
  by_source [] own other = pairs_none R
  by_source (x ∷ xs) own other =
      AllPairs-cons R x xs (All_from_members (R x) xs first) (by_source xs later (λ y z c d ne. other y z (Contains-tail x xs y c) (Contains-tail x xs z d) ne))
    where
      later : (z : Entry) → Contains xs z → AllPairs R (entries_from z.source xs)
      later z c = by (x.source == z.source) (own z (Contains-tail x xs z c))
        where
          by : (b : Bool) → AllPairs R (cond b (x ∷ entries_from z.source xs) (entries_from z.source xs)) → AllPairs R (entries_from z.source xs)
          by true h = pairs_back R (x ∷ []) (entries_from z.source xs) h
          by false h = h

      first : (y : Entry) → Contains xs y → R x y
      first y c = elim (cases_eq x.source y.source) [
        | inl e ↦ (
            let test : (x.source == x.source) ≡ true = eq-eqb x.source x.source refl in
            let all : AllPairs R (x ∷ entries_from x.source xs) = subst (λ b. AllPairs R (cond b (x ∷ entries_from x.source xs) (entries_from x.source xs))) test (own x (Contains-head x xs)) in
            pairs_cross R (x ∷ []) (entries_from x.source xs) all x y (Contains-head x []) (filter_has (λ (z : Entry). z.source == x.source) xs y c (eq-eqb y.source x.source (sym e)))
            )
        | inr ne ↦ other x y (Contains-head x xs) (Contains-tail x xs y c) ne
      ]

-- two lists, and what holds of each pair from both
pub pairs_append : {X : Type 0} (R : X → X → Type 0) (xs ys : List X) → AllPairs R xs → AllPairs R ys → ((x y : X) → Contains xs x → Contains ys y → R x y) → AllPairs R (xs ++ ys)
pairs_append R [] ys h g cross = g
pairs_append R (x ∷ xs) ys h g cross =
    AllPairs-cons R x (xs ++ ys)
    (All_from_members (R x) (xs ++ ys) (λ y c. elim (Contains-append_cases xs ys y c) [
      | inl d ↦ pairs_cross R (x ∷ []) xs h x y (Contains-head x []) d
      | inr d ↦ cross x y (Contains-head x xs) d
    ]))
    (pairs_append R xs ys (pairs_back R (x ∷ []) xs h) g (λ z y c d. cross z y (Contains-tail x xs z c) d))

-- pairs of what a function gives
pub pairs_map : {X Y : Type 0} (R : Y → Y → Type 0) (f : X → Y) (d : X) (xs : List X) → AllPairs (λ x y. R (f x) (f y)) xs → AllPairs R (map f xs)
pairs_map R f d xs h = λ i j e lt l.
    let m : j < length xs = omega (arith, length-map xs f) in
    subst₂ R (sym (get_or-map f xs i d e (omega arith))) (sym (get_or-map f xs j d e m)) (h i j d lt m)
