-- How far the last bound before a time lies before it.
use Rattle.std.proofs.Common.{◌≡◌, ◌≤◌, ◌<◌, ◌↔◌, ◌+◌, ◌-◌, ◌*◌, ◌/◌, ◌%◌, ◌∙◌, ℕ, true, false, ap, sym, refl, arith}
use Rattle.std.specs.Prelude.{nat_lt, if◌then◌else◌}
use Rattle.stream_base.specs.Kinds.{bounds_up_to, has_bound}
use Rattle.std.proofs.lemmas.Bool.{ltb_from_iff}
use Rattle.std.proofs.lemmas.Bool.Decides.{nat_tests}
use Rattle.std.proofs.lemmas.Nat.{div-add-mod'}
use Rattle.std.proofs.Math.Nat.{div-lt_iff_lt-mul}

short_of : (a b last rest : ℕ) → last + rest ≡ b → rest < b - a → a < last
short_of a b last rest whole h = omega (arith, whole, h)

beyond : (a b last rest : ℕ) → last + rest ≡ b → a < last → rest < b - a
beyond a b last rest whole h = omega (arith, whole, h)

holds : (a b : ℕ) → nat_lt a b ≡ true → a < b
holds a b h = grind (arith, nat_tests)

told : (a b : ℕ) → a < b → nat_lt a b ≡ true
told a b h = grind (arith, nat_tests)

refuted : (a b : ℕ) → b ≤ a → nat_lt a b ≡ false
refuted a b h = grind (arith, nat_tests)

-- the bounds up to a time behind the offset
counted : (offset slide t : ℕ) → offset ≤ t → bounds_up_to offset slide t ≡ (t - offset) / slide + 1
counted offset slide t h = ap (λ b. if b then 0 else (t - offset) / slide + 1) (refuted t offset h)

-- behind the offset a bound lies between two times where the remainder says so
pub remainder_tells : (offset slide low high : ℕ) → 1 ≤ slide → offset ≤ low → offset ≤ high → nat_lt ((high - offset) % slide) (high - low) ≡ has_bound offset slide low high
remainder_tells offset slide low high some first second =
    let a : ℕ = low - offset in
    let b : ℕ = high - offset in
    let whole : b / slide * slide + b % slide ≡ b = div-add-mod' b slide in
    let between : (a / slide < b / slide) ↔ (a < b / slide * slide) = div-lt_iff_lt-mul some in
    let same : high - low ≡ b - a = omega (arith, first, second) in
    let turned : nat_lt (b % slide) (b - a) ≡ nat_lt (a / slide + 1) (b / slide + 1) =
    ltb_from_iff (
      (λ h. omega (arith, between.1 (short_of a b (b / slide * slide) (b % slide) whole (holds (b % slide) (b - a) h)))),
      (λ h. told (b % slide) (b - a) (beyond a b (b / slide * slide) (b % slide) whole (between.0 (omega (arith, h))))),
    ) in
    ap (nat_lt (b % slide)) same ∙ turned ∙ sym (rw (counted offset slide low first, counted offset slide high second) refl)
