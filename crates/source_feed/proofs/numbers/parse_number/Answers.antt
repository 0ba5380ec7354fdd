-- Before the 19th digit the number is below 10^18.
use Rattle.std.proofs.Common.{◌≤◌, ◌^◌, lit<, arith}
use Rattle.std.proofs.Math.Nat.{pow-le-pow_right}
use Rattle.source_feed.proofs.numbers.parse_number.Goals as goal

pub overflow_mul-number : goal.overflow_mul-number
overflow_mul-number c =
    let few : c.digits.digit-index ≤ 18 = omega arith in
    let below : 10 ^ c.digits.digit-index ≤ 10 ^ 18 = pow-le-pow_right (lit< tt) few in
    omega arith

pub overflow_add-number : goal.overflow_add-number
overflow_add-number c =
    let few : c.digits.digit-index ≤ 18 = omega arith in
    let below : 10 ^ c.digits.digit-index ≤ 10 ^ 18 = pow-le-pow_right (lit< tt) few in
    omega arith
