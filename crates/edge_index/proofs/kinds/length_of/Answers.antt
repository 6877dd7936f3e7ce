use Rattle.std.proofs.Common.{◌≡◌, ◌∙◌, ap, ◌<◌, ◌^◌, w64, ℤ, ◌+ℤ◌, ◌-ℤ◌, arith}
use Rattle.std.proofs.lemmas.Int.{ints, to_z-of_z}
use Rattle.std.specs.Prelude.{FitsSigned, unsigned_abs}
use Rattle.exact_plane.proofs.Registers.{read, short, short_is}
use Rattle.edge_index.proofs.kinds.length_of.Goals as goal

-- a number below 2 ^ 63 is read as it is
long_read : (z : ℤ) → unsigned_abs z < 2 ^ 63 → read z ≡ z
long_read z small = to_z-of_z w64 z (omega (arith, ints, small))

-- a number of 32 bits, made longer
coordinate_read : (z : ℤ) → unsigned_abs z < 2 ^ 31 → read (short z) ≡ z
coordinate_read z small = ap read (short_is z small) ∙ long_read z (omega (arith, ints, small))

module _ (a b : ℤ) (small_a : unsigned_abs a < 2 ^ 31) (small_b : unsigned_abs b < 2 ^ 31) where
  -- a difference of two such numbers
  way_is : read (read (short a) -ℤ read (short b)) ≡ a -ℤ b
  way_is = rw (coordinate_read a small_a, coordinate_read b small_b) (long_read (a -ℤ b) (omega (arith, ints, small_a, small_b)))

  way_small : unsigned_abs (read (read (short a) -ℤ read (short b))) < 2 ^ 32
  way_small = rw way_is (omega (arith, ints, small_a, small_b))

-- a sum of two small numbers
module _ (a b : ℤ) (small_a : unsigned_abs a < 2 ^ 32) (small_b : unsigned_abs b < 2 ^ 32) where
  sum_fits : FitsSigned w64 (a +ℤ b)
  sum_fits = omega (arith, ints, small_a, small_b)

  sum_small : unsigned_abs (read (a +ℤ b)) < 2 ^ 34
  sum_small = rw (to_z-of_z w64 (a +ℤ b) sum_fits) (omega (arith, ints, small_a, small_b))

-- a difference as it is computed
abbrev way : ℤ → ℤ → ℤ
way a b = read (read (short a) -ℤ read (short b))

pub overflow_add-result : goal.overflow_add-result
overflow_add-result c =
    let box = c.args.around.now in
    sum_fits (way box.east box.west) (way box.north box.south)
    (way_small box.east box.west box.east_fits box.west_fits) (way_small box.north box.south box.north_fits box.south_fits)

pub returns : goal.returns
returns c =
    let box = c.args.around.now in
    sum_small (way box.east box.west) (way box.north box.south)
    (way_small box.east box.west box.east_fits box.west_fits) (way_small box.north box.south box.north_fits box.south_fits)
