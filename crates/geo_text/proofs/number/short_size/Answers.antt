use Rattle.std.proofs.Common.{◌<◌, ◌≤◌, ◌^◌, ℕ, arith}
use Rattle.std.proofs.Math.Nat.{pow-le-pow_right}
use Rattle.std.proofs.lemmas.Grind.{common_steps, pow_more}
use Rattle.std.proofs.lemmas.Int.Digits.{digits_value_more}
use Rattle.std.proofs.lemmas.Str.{digit_value_digit}
use Rattle.geo_text.proofs.number.short_size.Goals as goal

-- fewer digits than 18 are a number with room for one more
below_all : (value count : ℕ) → value < 10 ^ count → count < 18 → value < 10 ^ 17
below_all value count h few =
    let up : count ≤ 17 = omega (arith, few) in
    let le : 10 ^ count ≤ 10 ^ 17 = pow-le-pow_right (omega arith) up in
    omega (arith, h, le)

pub overflow_mul-size : goal.overflow_mul-size
overflow_mul-size c =
    let few : c.loop-digit.size < 10 ^ 17 = below_all c.loop-digit.size c.loop-digit.digit-index (rw c.loop-digit.invariant.value c.loop-digit.invariant.small) (omega arith) in
    omega (arith, few)

pub overflow_add-size : goal.overflow_add-size
overflow_add-size c =
    let few : c.loop-digit.size < 10 ^ 17 = below_all c.loop-digit.size c.loop-digit.digit-index (rw c.loop-digit.invariant.value c.loop-digit.invariant.small) (omega arith) in
    omega (arith, few)

pub loop-digit-preserved : goal.loop-digit-preserved
loop-digit-preserved c = record {
  digits = grind (arith, common_steps);
  value = grind (arith, digits_value_more, digit_value_digit);
  small = grind (arith, pow_more, digits_value_more, digit_value_digit);
}
