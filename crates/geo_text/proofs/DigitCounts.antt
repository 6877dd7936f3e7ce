-- How many digits a number has.
use Rattle.std.proofs.Common.{ℕ, ◌<◌, ◌≤◌, ◌^◌, ℤ, pos, negsuc, length, decimal, arith}
use Rattle.std.proofs.lemmas.Fmt.{length-decimal-le, length_signed_le}
use Rattle.std.specs.Fmt.{signed_decimal}
use Rattle.plane.specs.Point.{IsInLimit}

-- one of 32 bits,
pub ten_digits : (n : ℕ) → n < 2 ^ 32 → length (decimal n) ≤ 10
ten_digits n small = length-decimal-le 10 n (omega arith) (omega (arith, small)) (omega (arith, small))

-- one of 63,
pub nineteen_digits : (n : ℕ) → n ≤ 2 ^ 63 → length (decimal n) ≤ 19
nineteen_digits n small = length-decimal-le 19 n (omega arith) (omega (arith, small)) (omega (arith, small))

-- and one of 64
pub twenty_digits : (n : ℕ) → n < 2 ^ 64 → length (decimal n) ≤ 20
twenty_digits n small = length-decimal-le 20 n (omega arith) (omega (arith, small)) (omega (arith, small))

-- a coordinate has at most seven, and a sign
pub coordinate_length : (z : ℤ) → IsInLimit z → length (signed_decimal z) ≤ 8
coordinate_length (pos n) small = length_signed_le 7 (pos n) (omega (arith, small)) (omega (arith, small))
coordinate_length (negsuc n) small = length_signed_le 7 (negsuc n) (omega (arith, small)) (omega (arith, small))
