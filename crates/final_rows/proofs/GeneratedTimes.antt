-- The times of generated tuples: no two are equal, and none lies far behind an earlier one.
use Rattle.std.proofs.Common.{◌≡◌, ◌∙◌, ℕ, ◌+◌, ◌*◌, ◌/◌, ◌%◌, ◌^◌, ◌<◌, ◌≤◌, ap, sym, arith}
use Rattle.std.specs.Prelude.{bit_xor}
use Rattle.std.specs.Int.Bits.{xor_assoc, xor_self, xor_zero_r}
use Rattle.std.proofs.lemmas.Nat.{xor_lt, xor_shr}
use Rattle.stream_base.specs.declared.limits.TheConstants.{TIME_MAX}
use Rattle.source_feed.specs.Generated.{drawn_for, place_of, time_at}
use Rattle.source_feed.specs.declared.made_feed.TheConstants.{MADE_ROWS_MAX}

-- an index keeps its eight
eight_of_place : (i : ℕ) → place_of i / 8 ≡ i / 8
eight_of_place i =
    let none : i / 8 % 8 / 2 ^ 3 ≡ 0 = omega arith in
    xor_shr i (i / 8 % 8) 3 ∙ ap (bit_xor (i / 2 ^ 3)) none ∙ xor_zero_r (i / 2 ^ 3)

-- and has a place of its own
place_back : (i : ℕ) → bit_xor (place_of i) (i / 8 % 8) ≡ i
place_back i = xor_assoc i (i / 8 % 8) (i / 8 % 8) ∙ ap (bit_xor i) (xor_self (i / 8 % 8)) ∙ xor_zero_r i

one_place : (i j : ℕ) → place_of i ≡ place_of j → i ≡ j
one_place i j e =
    let eight : i / 8 ≡ j / 8 = sym (eight_of_place i) ∙ ap (λ n. n / 8) e ∙ eight_of_place j in
    sym (place_back i) ∙ ap (λ n. bit_xor n (i / 8 % 8)) e ∙ ap (λ n. bit_xor (place_of j) (n % 8)) eight ∙ place_back j

-- no two tuples have one time
pub one_time : (seed i j : ℕ) → time_at seed i ≡ time_at seed j → i ≡ j
one_time seed i j e =
    one_place i j (sixteens (place_of i) (drawn_for seed i % 16) (place_of j) (drawn_for seed j % 16) (omega arith) (omega arith) e)
  where
    sixteens : (a r b s : ℕ) → r < 16 → s < 16 → 16 * a + r ≡ 16 * b + s → a ≡ b
    sixteens a r b s l m e = omega arith

-- a tuple lies less than 128 behind each earlier one
pub near_earlier : (seed i j : ℕ) → i < j → time_at seed i < time_at seed j + 128
near_earlier seed i j h =
    near (place_of i) (drawn_for seed i % 16) (place_of j) (drawn_for seed j % 16) (omega arith)
    (let p = eight_of_place i in let q = eight_of_place j in omega (arith, p, q))
  where
    near : (a r b s : ℕ) → r < 16 → a / 8 ≤ b / 8 → 16 * a + r < 16 * b + s + 128
    near a r b s l m = omega arith

pub time_is_early : (seed i : ℕ) → i < MADE_ROWS_MAX → time_at seed i ≤ TIME_MAX
time_is_early seed i h =
    let small : i < 2 ^ 20 = omega arith in
    let place : place_of i < 2 ^ 20 = xor_lt 20 i (i / 8 % 8) small (omega arith) in
    early (place_of i) (drawn_for seed i % 16) place (omega arith)
  where
    early : (a r : ℕ) → a < 2 ^ 20 → r < 16 → 16 * a + r ≤ TIME_MAX
    early a r l m = omega arith
