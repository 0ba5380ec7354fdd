-- The laws of the nine functions, over what each of them keeps.
use Rattle.std.proofs.Common.{◌≡◌, ◌<◌, ◌+◌, ◌*◌, ◌%◌, ◌^◌, ◌∙◌, ℕ, ℤ, Option, None, Some, true, false, cond, sym, ap, refl, arith, rules, Fits, lit<}
use Rattle.std.specs.Prelude.{IfSome, int_lt, FitsSigned}
use Rattle.std.specs.Int.{w64, w128, int_min, int_max, cast_unsigned, cast_signed}
use Rattle.std.proofs.lemmas.Int.{ints}
use Rattle.std.proofs.Math.Facts.{sfits_to_z, to_z-of_z, of_z-to_z, Fits-of_z}
use Rattle.std.proofs.Math.Nat.{mul_assoc, mod-add-mod, add-mod-mod}
use Rattle.std.proofs.lemmas.Nat.{mul-mod_first, mul-mod_second, mod_below}
use Rattle.stream_base.specs.Model.Functions.{counting, summing, least, greatest, averaging, earliest, latest, rising, tracing, count_sum, either_or, joined_runs}
use Rattle.agg_laws.specs.Compounds.{paired}
use Rattle.agg_laws.specs.Laws.{MonoidLaws}
use Rattle.aggregates.specs.Values.{IsCount, IsSum, IsPick, IsMean, IsRun, IsTrace}

pub count_laws : MonoidLaws IsCount counting.unit counting.combine
count_laws = record {
  unit_is_value = omega arith;
  closed = λ x y hx hy. omega arith;
  left_unit = λ x h. omega arith;
  right_unit = λ x h. omega arith;
  assoc = λ x y z hx hy hz. omega arith;
}

module _ (a b c : ℕ) (ha : a < 2 ^ 128) (hb : b < 2 ^ 128) (hc : c < 2 ^ 128) where
  sum_assoc : ((a + b) % 2 ^ 128 + c) % 2 ^ 128 ≡ (a + (b + c) % 2 ^ 128) % 2 ^ 128
  sum_assoc = omega arith

zero_plus : (a : ℕ) → a < 2 ^ 128 → (0 + a) % 2 ^ 128 ≡ a
zero_plus a h = omega arith

plus_zero : (a : ℕ) → a < 2 ^ 128 → (a + 0) % 2 ^ 128 ≡ a
plus_zero a h = omega arith

wrapped_fits : (n : ℕ) → FitsSigned w128 (cast_signed w128 (n % 2 ^ 128))
wrapped_fits n = let h : Fits w128 (n % 2 ^ 128) = omega arith in sfits_to_z {w = w128} h

unwrapped : (n : ℕ) → cast_unsigned w128 (cast_signed w128 (n % 2 ^ 128)) ≡ n % 2 ^ 128
unwrapped n = let h : Fits w128 (n % 2 ^ 128) = omega arith in of_z-to_z {w = w128} h

bits_below : (z : ℤ) → FitsSigned w128 z → cast_unsigned w128 z < 2 ^ 128
bits_below z h = let f : Fits w128 (cast_unsigned w128 z) = Fits-of_z {w = w128} h in omega arith

pub sum_laws : MonoidLaws IsSum summing.unit summing.combine
sum_laws = record {
  unit_is_value = search rules;
  closed = λ x y hx hy. wrapped_fits (cast_unsigned w128 x + cast_unsigned w128 y);
  left_unit = λ x h. ap (cast_signed w128) (zero_plus (cast_unsigned w128 x) (bits_below x h)) ∙ to_z-of_z {w = w128} h;
  right_unit = λ x h. ap (cast_signed w128) (plus_zero (cast_unsigned w128 x) (bits_below x h)) ∙ to_z-of_z {w = w128} h;
  assoc = λ x y z hx hy hz.
      let a : ℕ = cast_unsigned w128 x in
      let b : ℕ = cast_unsigned w128 y in
      let c : ℕ = cast_unsigned w128 z in
      ap (λ n. cast_signed w128 ((n + c) % 2 ^ 128)) (unwrapped (a + b)) ∙ ap (cast_signed w128) (sum_assoc a b c (bits_below x hx) (bits_below y hy) (bits_below z hz)) ∙ sym (ap (λ n. cast_signed w128 ((a + n) % 2 ^ 128)) (unwrapped (b + c)));
}

module _ {A : Type 0} (P : A → Type 0) (join : A → A → A) (closed : (x y : A) → P x → P y → P (join x y)) (assoc : (x y z : A) → P x → P y → P z → join (join x y) z ≡ join x (join y z)) where
  either_closed : (x y : Option A) → IfSome x P → IfSome y P → IfSome (either_or join x y) P
  either_closed None y hx hy = hy
  either_closed (Some x) None hx hy = hx
  either_closed (Some x) (Some y) hx hy = closed x y hx hy

  either_right : (x : Option A) → either_or join x None ≡ x
  either_right None = refl
  either_right (Some x) = refl

  either_assoc : (x y z : Option A) → IfSome x P → IfSome y P → IfSome z P → either_or join (either_or join x y) z ≡ either_or join x (either_or join y z)
  either_assoc None y z hx hy hz = refl
  either_assoc (Some x) None z hx hy hz = refl
  either_assoc (Some x) (Some y) None hx hy hz = refl
  either_assoc (Some x) (Some y) (Some z) hx hy hz = ap Some (assoc x y z hx hy hz)

  -- what may be none obeys the laws where joining two is a value and grouping doesn't matter
  pub either_laws : MonoidLaws (λ o. IfSome o P) None (either_or join)
  either_laws = record {
    unit_is_value = tt;
    closed = either_closed;
    left_unit = λ x h. refl;
    right_unit = λ x h. either_right x;
    assoc = either_assoc;
  }

min_closed : (x y : ℤ) → FitsSigned w64 x → FitsSigned w64 y → FitsSigned w64 (int_min x y)
min_closed x y hx hy = elim (int_lt y x) as (λ b. FitsSigned w64 (cond b y x)) [ true ↦ hy | false ↦ hx ]

max_closed : (x y : ℤ) → FitsSigned w64 x → FitsSigned w64 y → FitsSigned w64 (int_max x y)
max_closed x y hx hy = elim (int_lt y x) as (λ b. FitsSigned w64 (cond b x y)) [ true ↦ hx | false ↦ hy ]

min_assoc : (x y z : ℤ) → int_min (int_min x y) z ≡ int_min x (int_min y z)
min_assoc x y z = grind (arith, ints)

max_assoc : (x y z : ℤ) → int_max (int_max x y) z ≡ int_max x (int_max y z)
max_assoc x y z = grind (arith, ints)

pub least_laws : MonoidLaws IsPick least.unit least.combine
least_laws = either_laws (FitsSigned w64) int_min min_closed (λ x y z hx hy hz. min_assoc x y z)

pub greatest_laws : MonoidLaws IsPick greatest.unit greatest.combine
greatest_laws = either_laws (FitsSigned w64) int_max max_closed (λ x y z hx hy hz. max_assoc x y z)

pub mean_laws : MonoidLaws IsMean averaging.unit averaging.combine
mean_laws = paired sum_laws count_laws

pub earliest_laws : MonoidLaws IsPick earliest.unit earliest.combine
earliest_laws = either_laws (FitsSigned w64) (λ x y. x) (λ x y hx hy. hx) (λ x y z hx hy hz. refl)

pub latest_laws : MonoidLaws IsPick latest.unit latest.combine
latest_laws = either_laws (FitsSigned w64) (λ x y. y) (λ x y hx hy. hy) (λ x y z hx hy hz. refl)

-- rises of three runs, and one more between each two
rises_assoc : (p q r s t : ℕ) → count_sum (count_sum (count_sum (count_sum p q) s) r) t ≡ count_sum (count_sum p (count_sum (count_sum q r) t)) s
rises_assoc p q r s t = omega arith

runs_assoc : (x y z : ℤ × ℤ × ℕ) → joined_runs (joined_runs x y) z ≡ joined_runs x (joined_runs y z)
runs_assoc x y z = ap (λ n. (x.0, z.1, n)) (rises_assoc x.2 y.2 z.2 (cond (int_lt x.1 y.0) 1 0) (cond (int_lt y.1 z.0) 1 0))

pub rises_laws : MonoidLaws IsRun rising.unit rising.combine
rises_laws = either_laws (λ r. FitsSigned w64 r.0 × FitsSigned w64 r.1 × IsCount r.2) joined_runs (λ x y hx hy. (hx.0, hy.1, omega arith)) (λ x y z hx hy hz. runs_assoc x y z)

-- a product of three factors modulo m, in both groupings
product_assoc : (a b c m : ℕ) → ((a * b) % m * c) % m ≡ (a * ((b * c) % m)) % m
product_assoc a b c m = mul-mod_first (a * b) c m ∙ ap (λ n. n % m) (mul_assoc a b c) ∙ sym (mul-mod_second a (b * c) m)

-- three affine functions, the first two put together first: its summand without the inner remainders
first_two : (bx ay by az bz m : ℕ) → (((bx * ay + by) % m) * az + bz) % m ≡ ((bx * ay + by) * az + bz) % m
first_two bx ay by az bz m =
    sym (mod-add-mod (((bx * ay + by) % m) * az) m bz) ∙ ap (λ n. (n + bz) % m) (mul-mod_first (bx * ay + by) az m) ∙ mod-add-mod ((bx * ay + by) * az) m bz

-- the same with the last two put together first
last_two : (bx ay by az bz m : ℕ) → (bx * ((ay * az) % m) + (by * az + bz) % m) % m ≡ (bx * (ay * az) + (by * az + bz)) % m
last_two bx ay by az bz m =
    add-mod-mod (bx * ((ay * az) % m)) (by * az + bz) m ∙ sym (mod-add-mod (bx * ((ay * az) % m)) m (by * az + bz)) ∙ ap (λ n. (n + (by * az + bz)) % m) (mul-mod_second bx (ay * az) m) ∙ mod-add-mod (bx * (ay * az)) m (by * az + bz)

spread : (bx ay by az bz : ℕ) → (bx * ay + by) * az + bz ≡ bx * (ay * az) + (by * az + bz)
spread bx ay by az bz = grind arith

summand_assoc : (bx ay by az bz m : ℕ) → (((bx * ay + by) % m) * az + bz) % m ≡ (bx * ((ay * az) % m) + (by * az + bz) % m) % m
summand_assoc bx ay by az bz m =
    first_two bx ay by az bz m ∙ ap (λ n. n % m) (spread bx ay by az bz) ∙ sym (last_two bx ay by az bz m)

once : (a : ℕ) → a < 2 ^ 64 → (1 * a) % 2 ^ 64 ≡ a
once a h = omega arith

alone : (a b : ℕ) → b < 2 ^ 64 → (0 * a + b) % 2 ^ 64 ≡ b
alone a b h = omega arith

by_one : (a : ℕ) → a < 2 ^ 64 → (a * 1) % 2 ^ 64 ≡ a
by_one a h = omega arith

by_one_and_none : (b : ℕ) → b < 2 ^ 64 → (b * 1 + 0) % 2 ^ 64 ≡ b
by_one_and_none b h = omega arith

pub trace_laws : MonoidLaws IsTrace tracing.unit tracing.combine
trace_laws = record {
  unit_is_value = (lit< tt, lit< tt);
  closed = λ x y hx hy. (mod_below (x.0 * y.0) (2 ^ 64) (lit< tt), mod_below (x.1 * y.0 + y.1) (2 ^ 64) (lit< tt));
  left_unit = λ x h i. (once x.0 h.0 i, alone x.0 x.1 h.1 i);
  right_unit = λ x h i. (by_one x.0 h.0 i, by_one_and_none x.1 h.1 i);
  assoc = λ x y z hx hy hz i. (product_assoc x.0 y.0 z.0 (2 ^ 64) i, summand_assoc x.1 y.0 y.1 z.0 z.1 (2 ^ 64) i);
}

-- a number of 64 bits is one of 128 bits
pub widened : (v : ℤ) → FitsSigned w64 v → FitsSigned w128 v
widened v h = search rules

-- the bits of a number of 64 bits
pub bits_of_number : (v : ℤ) → FitsSigned w64 v → cast_unsigned w64 v < 2 ^ 64
bits_of_number v h = let f : Fits w64 (cast_unsigned w64 v) = Fits-of_z {w = w64} h in omega arith
