-- How many pairs lie behind a key, where the list is known in parts.
use Rattle.std.proofs.Common.{◌≡◌, ◌<◌, ◌≤◌, ◌+◌, ℕ, true, false, cond, List, ◌∷◌, ◌++◌, length, ap, ◌∙◌, arith, length-append}
use Rattle.std.specs.Prelude.{filter, nat_lt}
use Rattle.std.specs.List.{All}
use Rattle.std.proofs.lemmas.Bool.Decides.{nat_tests}
use Rattle.std.proofs.lemmas.List.Elements.{All-weaker, filter-append}
use Rattle.stream_base.proofs.Filters.{filter_all, filter_none}
use Rattle.agg_laws.specs.Pairs.{distance}

behind : (key at : ℕ) → key < at → nat_lt key at ≡ true
behind key at h = grind (arith, nat_tests)

before : (key at : ℕ) → at ≤ key → nat_lt key at ≡ false
before key at h = grind (arith, nat_tests)

module _ {M : Type 0} where
  pub distance-append : (key : ℕ) (xs ys : List (ℕ × M)) → distance key (xs ++ ys) ≡ distance key xs + distance key ys
  distance-append key xs ys =
      ap length (filter-append (λ p. nat_lt key p.0) xs ys)
      ∙ length-append (filter (λ p. nat_lt key p.0) xs) (filter (λ p. nat_lt key p.0) ys)

  pub distance-all : (key : ℕ) (ys : List (ℕ × M)) → All (λ p. key < p.0) ys → distance key ys ≡ length ys
  distance-all key ys h =
      ap length (filter_all (λ p. nat_lt key p.0) ys (All-weaker (λ p. key < p.0) (λ p. nat_lt key p.0 ≡ true) (λ p l. behind key p.0 l) ys h))

  -- all that stand at the end lie behind it
  pub distance-end : (key : ℕ) (xs ys : List (ℕ × M)) → All (λ p. key < p.0) ys → length ys ≤ distance key (xs ++ ys)
  distance-end key xs ys h = omega (arith, distance-append key xs ys, distance-all key ys h)

  pub distance-none : (key : ℕ) (xs : List (ℕ × M)) → All (λ p. p.0 ≤ key) xs → distance key xs ≡ 0
  distance-none key xs h =
      ap length (filter_none (λ p. nat_lt key p.0) xs (All-weaker (λ p. p.0 ≤ key) (λ p. nat_lt key p.0 ≡ false) (λ p l. before key p.0 l) xs h))

  -- behind the key of a pair lies what stands behind that pair
  pub distance-middle : (key : ℕ) (value : M) (xs ys : List (ℕ × M)) → All (λ p. p.0 < key) xs → All (λ p. key < p.0) ys → distance key (xs ++ (key, value) ∷ ys) ≡ length ys
  distance-middle key value xs ys below above =
      let none = distance-none key xs (All-weaker (λ p. p.0 < key) (λ p. p.0 ≤ key) (λ p l. omega arith) xs below) in
      let own : nat_lt key key ≡ false = before key key (omega arith) in
      let back : distance key ((key, value) ∷ ys) ≡ distance key ys = ap (λ b. length (cond b ((key, value) ∷ filter (λ p. nat_lt key p.0) ys) (filter (λ p. nat_lt key p.0) ys))) own in
      omega (arith, distance-append key xs ((key, value) ∷ ys), none, back, distance-all key ys above)
