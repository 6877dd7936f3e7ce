-- The numbers by which a cover is to one side of a line, as a function computes them.
use Rattle.std.proofs.Common.{◌≡◌, ◌∙◌, refl, ◌<◌, ◌≤◌, ◌^◌, w64, ℤ, pos, ◌+ℤ◌, ◌-ℤ◌, ◌*ℤ◌, ◌<ℤ◌, ◌≤ℤ◌, arith}
use Rattle.std.proofs.lemmas.Int.{clamps, ints, to_z-of_z}
use Rattle.std.specs.Int.{int_max, int_min}
use Rattle.std.specs.Int.Signed.{lt_z}
use Rattle.std.specs.Prelude.{FitsSigned, IsTrue, unsigned_abs}
use Rattle.exact_plane.proofs.CrossProduct.{difference_fits, difference_read}
use Rattle.exact_plane.proofs.Registers.{read}
use Rattle.exact_plane.proofs.WideProducts.{product_size}
use Rattle.edge_index.proofs.Multiples.{long_fits, long_read}

-- ---- the slope between two ways

module _ (a b c d : ℤ) (small_a : unsigned_abs a < 2 ^ 24) (small_b : unsigned_abs b < 2 ^ 24) (small_c : unsigned_abs c < 2 ^ 12) (small_d : unsigned_abs d < 2 ^ 12) where
  pub slope_fits : FitsSigned w64 (read (read a *ℤ read d) -ℤ read (read b *ℤ read c))
  slope_fits = difference_fits a d b c small_a (omega (arith, small_d)) small_b (omega (arith, small_c))

  pub slope_read : read (read (read a *ℤ read d) -ℤ read (read b *ℤ read c)) ≡ a *ℤ d -ℤ b *ℤ c
  slope_read = difference_read a d b c small_a (omega (arith, small_d)) small_b (omega (arith, small_c))

  slope_small : unsigned_abs (a *ℤ d -ℤ b *ℤ c) < 2 ^ 37
  slope_small =
      let first : unsigned_abs (a *ℤ d) < 2 ^ 36 = product_size a d (2 ^ 24) (2 ^ 12) small_a small_d in
      let second : unsigned_abs (b *ℤ c) < 2 ^ 36 = product_size b c (2 ^ 24) (2 ^ 12) small_b small_c in
      omega (arith, ints, first, second)

  pub slope_read_small : unsigned_abs (read (read (read a *ℤ read d) -ℤ read (read b *ℤ read c))) < 2 ^ 37
  slope_read_small = rw slope_read slope_small

-- ---- where the line is

module _ (c here : ℤ) (small_c : unsigned_abs c < 2 ^ 12) (small_here : unsigned_abs here < 2 ^ 49) where
  line_small : unsigned_abs (c *ℤ here) < 2 ^ 61
  line_small = product_size c here (2 ^ 12) (2 ^ 49) small_c small_here

  line_is : read c *ℤ read here ≡ c *ℤ here
  line_is = rw (long_read c (omega (arith, ints, small_c)), long_read here (omega (arith, ints, small_here))) refl

  pub line_fits : FitsSigned w64 (read c *ℤ read here)
  line_fits = rw line_is (long_fits _ (omega (arith, ints, line_small)))

  pub line_read : read (read c *ℤ read here) ≡ c *ℤ here
  line_read = to_z-of_z w64 _ line_fits ∙ line_is

  pub line_read_small : unsigned_abs (read (read c *ℤ read here)) < 2 ^ 61
  line_read_small = rw line_read line_small

-- ---- multiples

slope_multiple : (slope t : ℤ) → unsigned_abs slope < 2 ^ 37 → unsigned_abs t ≤ 2 ^ 23 → unsigned_abs (slope *ℤ t) < 2 ^ 61
slope_multiple slope t small small_t = product_size slope t (2 ^ 37) (2 ^ 24) small (omega (arith, small_t))

offset_multiple : (by h : ℤ) → unsigned_abs by < 2 ^ 24 → unsigned_abs h ≤ 2 ^ 37 → unsigned_abs (by *ℤ h) < 2 ^ 62
offset_multiple by h small small_h = product_size by h (2 ^ 24) (2 ^ 38) small (omega (arith, small_h))

module _ (by low high : ℤ) (fits_by : FitsSigned w64 by) (fits_low : FitsSigned w64 low) (fits_high : FitsSigned w64 high)
    (first : unsigned_abs (by *ℤ low) < 2 ^ 62) (second : unsigned_abs (by *ℤ high) < 2 ^ 62) where
  product_read : (z : ℤ) → FitsSigned w64 z → unsigned_abs (by *ℤ z) < 2 ^ 62 → read (read by *ℤ read z) ≡ by *ℤ z
  product_read z fits small = rw (to_z-of_z w64 by fits_by, to_z-of_z w64 z fits) (long_read _ (omega (arith, small)))

  -- the least and the greatest of two products as they are computed
  pub least_read : read (int_min (read (read by *ℤ read low)) (read (read by *ℤ read high))) ≡ int_min (by *ℤ low) (by *ℤ high)
  least_read = rw (product_read low fits_low first, product_read high fits_high second) (to_z-of_z w64 _ (omega (arith, ints, clamps, first, second)))

  pub greatest_read : read (int_max (read (read by *ℤ read low)) (read (read by *ℤ read high))) ≡ int_max (by *ℤ low) (by *ℤ high)
  greatest_read = rw (product_read low fits_low first, product_read high fits_high second) (to_z-of_z w64 _ (omega (arith, ints, clamps, first, second)))

-- ---- the sizes of the least and the greatest multiples

pub bound_read : (z : ℤ) → unsigned_abs z ≤ 2 ^ 37 → read z ≡ z
bound_read z small = long_read z (omega (arith, small))

module _ (slope low high r : ℤ) (small : unsigned_abs slope < 2 ^ 37) (small_low : unsigned_abs low ≤ 2 ^ 23) (small_high : unsigned_abs high ≤ 2 ^ 23) where
  slope_product : (t : ℤ) → unsigned_abs t ≤ 2 ^ 23 → unsigned_abs (read slope *ℤ read t) < 2 ^ 61
  slope_product t small_t = rw (long_read slope (omega (arith, small)), long_read t (omega (arith, small_t))) (slope_multiple slope t small small_t)

  pub least_small : r ≡ int_min (read slope *ℤ read low) (read slope *ℤ read high) → unsigned_abs r < 2 ^ 61
  least_small is = omega (arith, ints, clamps, is, slope_product low small_low, slope_product high small_high)

  pub most_small : r ≡ int_max (read slope *ℤ read low) (read slope *ℤ read high) → unsigned_abs r < 2 ^ 61
  most_small is = omega (arith, ints, clamps, is, slope_product low small_low, slope_product high small_high)

module _ (by from to r : ℤ) (small : unsigned_abs by < 2 ^ 24) (small_from : unsigned_abs from ≤ 2 ^ 37) (small_to : unsigned_abs to ≤ 2 ^ 37) where
  pub offset_product : (h : ℤ) → unsigned_abs h ≤ 2 ^ 37 → unsigned_abs (read by *ℤ read h) < 2 ^ 62
  offset_product h small_h = rw (long_read by (omega (arith, small)), bound_read h small_h) (offset_multiple by h small small_h)

  pub right_small : r ≡ int_min (read by *ℤ read from) (read by *ℤ read to) → unsigned_abs r < 2 ^ 62
  right_small is = omega (arith, ints, clamps, is, offset_product from small_from, offset_product to small_to)

  pub left_small : r ≡ int_max (read by *ℤ read from) (read by *ℤ read to) → unsigned_abs r < 2 ^ 62
  left_small is = omega (arith, ints, clamps, is, offset_product from small_from, offset_product to small_to)

-- ---- the sum

-- long numbers are compared as they are
less_if : (a b : ℤ) → IsTrue (lt_z a b) → a <ℤ b
less_if a b h = grind (arith, ints)

module _ (a b line : ℤ) (small_a : unsigned_abs a < 2 ^ 61) (small_b : unsigned_abs b < 2 ^ 62) (small_line : unsigned_abs line < 2 ^ 61) where
  gap_is : read a -ℤ read b ≡ a -ℤ b
  gap_is = rw (long_read a (omega (arith, small_a)), long_read b (omega (arith, small_b))) refl

  pub gap_fits : FitsSigned w64 (read a -ℤ read b)
  gap_fits = rw gap_is (omega (arith, ints, small_a, small_b))

  gap_read : read (read a -ℤ read b) ≡ a -ℤ b
  gap_read = to_z-of_z w64 _ gap_fits ∙ gap_is

  sum_is : read (read a -ℤ read b) +ℤ read line ≡ a -ℤ b +ℤ line
  sum_is = rw (gap_read, long_read line (omega (arith, small_line))) refl

  pub sum_fits : FitsSigned w64 (read (read a -ℤ read b) +ℤ read line)
  sum_fits = rw sum_is (omega (arith, ints, small_a, small_b, small_line))

  sum_read : read (read (read a -ℤ read b) +ℤ read line) ≡ a -ℤ b +ℤ line
  sum_read = to_z-of_z w64 _ sum_fits ∙ sum_is

  pub sum_positive : IsTrue (lt_z (pos 0) (read (read (read a -ℤ read b) +ℤ read line))) → pos 0 <ℤ (a -ℤ b +ℤ line)
  sum_positive h = less_if _ _ (rw sum_read at h)

  pub sum_negative : IsTrue (lt_z (read (read (read a -ℤ read b) +ℤ read line)) (pos 0)) → (a -ℤ b +ℤ line) <ℤ pos 0
  sum_negative h = less_if _ _ (rw sum_read at h)

-- and what it bounds
pub above_sum : (k l a b line : ℤ) → a ≤ℤ k → l ≤ℤ b → pos 0 <ℤ (a -ℤ b +ℤ line) → pos 0 <ℤ (k -ℤ l +ℤ line)
above_sum k l a b line h j positive = omega (arith, ints, h, j, positive)

pub below_sum : (k l a b line : ℤ) → k ≤ℤ a → b ≤ℤ l → (a -ℤ b +ℤ line) <ℤ pos 0 → (k -ℤ l +ℤ line) <ℤ pos 0
below_sum k l a b line h j negative = omega (arith, ints, h, j, negative)
