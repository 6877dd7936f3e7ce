-- Numbers as `number` reads them.
use Rattle.std.proofs.Common.{◌≡◌, ◌≤◌, ◌+◌, ℕ, zero, suc, min, ℤ, pos, negsuc, neg_ℤ, ◌-ℤ◌, Bool, true, false, List, Some, None}
use Rattle.std.proofs.Common.{if◌then◌else◌, refl, arith}
use Rattle.std.proofs.lemmas.Bool.Decides.{nat_tests}
use Rattle.std.proofs.lemmas.Int.{ints}
use Rattle.std.specs.Prelude.{nat_le, unsigned_abs}
use Rattle.plane.specs.declared.limits.TheConstants.{MAX_COORDINATE}
use Rattle.geo_text.specs.Capped.{capped, read_of}
use Rattle.geo_text.specs.Number.{is_coordinate, is_number, number_of}

-- a size past the limit stays past it below a minus sign
pub capped-neg : (n : ℕ) → capped (neg_ℤ (pos n)) ≡ pos 0 -ℤ pos (min n (MAX_COORDINATE + 1))
capped-neg zero = omega (arith, ints)
capped-neg (suc n) = omega (arith, ints)

-- a value where there is one only on a condition
pub only_if : (b : Bool) (z w : ℤ) → Some z ≡ (if b then Some w else None) → (b ≡ true) × (z ≡ w)
only_if true z w e = (refl, cc)
only_if false z w e = cc

-- what a number that was read says of its field
pub number_read : (field : List ℕ) (z : ℤ) → Some z ≡ (if is_number field then Some (capped (number_of field)) else None)
    → (is_number field ≡ true) × (z ≡ read_of field)
number_read field z e = only_if (is_number field) z (capped (number_of field)) e

-- a number past the limit is read as another past it
within_limit : (limit : ℕ) (z : ℤ) → limit ≤ MAX_COORDINATE → nat_le (unsigned_abs (capped z)) limit ≡ nat_le (unsigned_abs z) limit
within_limit limit (pos n) h = grind (arith, nat_tests)
within_limit limit (negsuc n) h = grind (arith, nat_tests)

pub read_within : (limit : ℕ) → limit ≤ MAX_COORDINATE → (field : List ℕ) → nat_le (unsigned_abs (read_of field)) limit ≡ is_coordinate limit field
read_within limit h field = within_limit limit (number_of field) h
