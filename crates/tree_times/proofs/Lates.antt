-- Keys in order are even, and late ones odd and each behind the late ones before it, so no key comes twice.
use Rattle.std.proofs.Common.{◌≡◌, ◌≤◌, ◌<◌, ◌+◌, ◌*◌, ◌-◌, ◌%◌, ℕ, false, List, arith}
use Rattle.agg_laws.specs.Pairs.{has_key, inserted}
use Rattle.tree_times.proofs.Keys.{KeysAre, none_yet, one_more}

-- a key below a bound, and by a distance below it where it came late
abbrev pub IsBelow : ℕ → ℕ → ℕ → Type 0
IsBelow distance bound key = (key < bound) × (key % 2 ≡ 1 → key + 2 * distance < bound)

-- these keys came before the next one in order
abbrev pub HaveCome : {M : Type 0} → ℕ → ℕ → List (ℕ × M) → Type 0
HaveCome distance i pairs = KeysAre (IsBelow distance (2 * i + 1)) pairs

-- and these when a late one is there too
abbrev pub HaveComeLate : {M : Type 0} → ℕ → ℕ → List (ℕ × M) → Type 0
HaveComeLate distance i pairs = KeysAre (IsBelow distance (2 * i + 2)) pairs

module _ {M : Type 0} where
  pub later : (distance i : ℕ) (ps : List (ℕ × M)) → HaveCome distance i ps → HaveComeLate distance i ps
  later distance i ps come k h = let b = come k h in (omega (arith, b.0), λ odd. let far = b.1 odd in omega (arith, far))

  pub no_late : (distance i : ℕ) (ps : List (ℕ × M)) → HaveCome distance i ps → distance ≤ i → has_key (2 * (i - distance) + 1) ps ≡ false
  no_late distance i ps come reach = none_yet (IsBelow distance (2 * i + 1)) (2 * (i - distance) + 1) ps come (λ b. let far = b.1 (omega arith) in omega (arith, far, reach))

  pub late_come : (distance i : ℕ) (value : M) (ps : List (ℕ × M)) → HaveCome distance i ps → distance ≤ i → HaveComeLate distance i (inserted (2 * (i - distance) + 1) value ps)
  late_come distance i value ps come reach = one_more (IsBelow distance (2 * i + 2)) (2 * (i - distance) + 1) value ps (later distance i ps come) (omega (arith, reach), λ odd. omega (arith, reach))

  pub no_next : (distance i : ℕ) (ps : List (ℕ × M)) → HaveComeLate distance i ps → has_key (2 * i + 2) ps ≡ false
  no_next distance i ps come = none_yet (IsBelow distance (2 * i + 2)) (2 * i + 2) ps come (λ b. let lt = b.0 in omega (arith, lt))

  pub next_come : (distance i : ℕ) (value : M) (ps : List (ℕ × M)) → HaveComeLate distance i ps → HaveCome distance (i + 1) (inserted (2 * i + 2) value ps)
  next_come distance i value ps come = one_more (IsBelow distance (2 * (i + 1) + 1)) (2 * i + 2) value ps (λ k h. let b = come k h in (omega (arith, b.0), λ odd. let far = b.1 odd in omega (arith, far))) (omega arith, λ odd. absurd (omega (arith, odd)))
