-- The area that the way between two points sweeps out fits 64 bits, and so does all on the way to it.
use Rattle.std.proofs.Common.{◌≡◌, ◌<◌, ◌^◌, ℤ, ◌*ℤ◌, ◌-ℤ◌, arith, w64}
use Rattle.std.proofs.lemmas.Int.{ints, unsigned_abs-mul}
use Rattle.std.proofs.lemmas.Nat.{mul-lt}
use Rattle.std.specs.Prelude.{FitsSigned, unsigned_abs}
use Rattle.plane.specs.Point.{IsInBounds, IsInLimit, Point}
use Rattle.exact_plane.proofs.CrossProduct.{difference_fits, difference_read, fits_half}
use Rattle.exact_plane.proofs.Registers.{read}

-- the size of a coordinate
pub below : (z : ℤ) → IsInLimit z → unsigned_abs z < 2 ^ 24
below z small = omega arith

-- which is less than 32 bits
pub half : (z : ℤ) → IsInLimit z → unsigned_abs z < 2 ^ 32
half z small = fits_half z (below z small)

-- and of a product of two
product_size : (a b : ℤ) → IsInLimit a → IsInLimit b → unsigned_abs (a *ℤ b) < 2 ^ 46
product_size a b small_a small_b = rw unsigned_abs-mul (mul-lt _ _ (2 ^ 23) (2 ^ 23) (omega arith) (omega arith))

module _ (p q : Point) (in_p : IsInBounds p) (in_q : IsInBounds q) where
  -- the area fits
  pub swept_fits : FitsSigned w64 (read (read p.x *ℤ read q.y) -ℤ read (read q.x *ℤ read p.y))
  swept_fits =
      difference_fits p.x q.y q.x p.y (below p.x in_p.x_in_limit) (half q.y in_q.y_in_limit) (below q.x in_q.x_in_limit) (half p.y in_p.y_in_limit)

  -- and is computed as it is
  pub swept_read : read (read (read p.x *ℤ read q.y) -ℤ read (read q.x *ℤ read p.y)) ≡ p.x *ℤ q.y -ℤ q.x *ℤ p.y
  swept_read =
      difference_read p.x q.y q.x p.y (below p.x in_p.x_in_limit) (half q.y in_q.y_in_limit) (below q.x in_q.x_in_limit) (half p.y in_p.y_in_limit)

  -- within its size
  pub swept_small : unsigned_abs (read (read (read p.x *ℤ read q.y) -ℤ read (read q.x *ℤ read p.y))) < 2 ^ 47
  swept_small =
      let left = product_size p.x q.y in_p.x_in_limit in_q.y_in_limit in
      let right = product_size q.x p.y in_q.x_in_limit in_p.y_in_limit in
      rw swept_read (omega (arith, ints))
