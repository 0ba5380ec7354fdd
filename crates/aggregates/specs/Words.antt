-- A signed number of 128 bits as two words.
use Rattle.std.proofs.Common.{◌≡◌, ◌<◌, ◌+◌, ◌*◌, ◌/◌, ◌%◌, ◌^◌, ◌∙◌, ℕ, ℤ, ap, arith}
use Rattle.std.specs.Int.{w128, cast_unsigned, cast_signed}
use Rattle.std.proofs.lemmas.Int.{of_z-to_z}
use Rattle.aggregates.specs.declared.packed_sum.PackedSum.TheInside.{Inside}

-- the number of these bits
abbrev pub number_of : Inside → ℤ
number_of a = cast_signed w128 (a.high * 2 ^ 64 + a.low)

-- each word has 64 bits
pub record AreWords (a : Inside) : Type 0 where
  pub low : a.low < 2 ^ 64
  pub high : a.high < 2 ^ 64

-- the low bits of a number, and the high ones
abbrev pub words_of : ℤ → Inside
words_of z = record { low = cast_unsigned w128 z % 2 ^ 64; high = cast_unsigned w128 z / 2 ^ 64 }

bits_back : (low high : ℕ) → low < 2 ^ 64 → high < 2 ^ 64 → cast_unsigned w128 (cast_signed w128 (high * 2 ^ 64 + low)) ≡ high * 2 ^ 64 + low
bits_back low high l h = of_z-to_z w128 (high * 2 ^ 64 + low) (omega (arith, l, h))

low_back : (low high : ℕ) → low < 2 ^ 64 → (high * 2 ^ 64 + low) % 2 ^ 64 ≡ low
low_back low high l = omega (arith, l)

high_back : (low high : ℕ) → low < 2 ^ 64 → (high * 2 ^ 64 + low) / 2 ^ 64 ≡ high
high_back low high l = omega (arith, l)

pub words_of-number : (a : Inside) → AreWords a → words_of (number_of a) ≡ a
words_of-number a h =
    let bits = bits_back a.low a.high h.low h.high in
    let low : (words_of (number_of a)).low ≡ a.low = ap (λ n. n % 2 ^ 64) bits ∙ low_back a.low a.high h.low in
    let high : (words_of (number_of a)).high ≡ a.high = ap (λ n. n / 2 ^ 64) bits ∙ high_back a.low a.high h.low in
    λ i. record { low = low i; high = high i }
