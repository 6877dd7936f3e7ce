-- Turns as directions, and the tests of their signs.
use Rattle.std.proofs.Common.{◌≡◌, ◌↔◌, refl, zero, suc, ℤ, pos, negsuc, Bool, true, false, arith}
use Rattle.std.proofs.lemmas.Int.{ints}
use Rattle.std.specs.Int.Signed.{lt_z}
use Rattle.std.specs.Prelude.{IsTrue}
use Rattle.exact_plane.specs.Direction.{direction_of}
use Rattle.exact_plane.specs.declared.direction.Direction.TheVariants.{Left, Right}

-- what is true exactly at a turn to the left tests that the determinant is positive,
pub left_test : (z : ℤ) (is : Bool) → IsTrue is ↔ (direction_of z ≡ Left) → is ≡ lt_z (pos 0) z
left_test (pos zero) true h = let e = h.0 refl in cc
left_test (pos zero) false h = refl
left_test (pos (suc n)) true h = grind (arith, ints)
left_test (pos (suc n)) false h = let e = h.1 refl in cc
left_test (negsuc n) true h = let e = h.0 refl in cc
left_test (negsuc n) false h = grind (arith, ints)

-- and one to the right that it is negative
pub right_test : (z : ℤ) (is : Bool) → IsTrue is ↔ (direction_of z ≡ Right) → is ≡ lt_z z (pos 0)
right_test (pos zero) true h = let e = h.0 refl in cc
right_test (pos zero) false h = refl
right_test (pos (suc n)) true h = let e = h.0 refl in cc
right_test (pos (suc n)) false h = grind (arith, ints)
right_test (negsuc n) true h = grind (arith, ints)
right_test (negsuc n) false h = let e = h.1 refl in cc
