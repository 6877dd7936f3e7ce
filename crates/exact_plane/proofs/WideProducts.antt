-- Sums of products of parts of rational points fit 128 bits, and so does all on the way to them.
use Rattle.std.proofs.Common.{◌≡◌, ◌∙◌, ◌<◌, ◌≤◌, ◌*◌, ◌^◌, ℕ, ℤ, ◌+ℤ◌, ◌*ℤ◌, ◌-ℤ◌, arith, w64}
use Rattle.std.proofs.lemmas.Int.{ints, to_z-of_z, unsigned_abs-mul}
use Rattle.std.proofs.lemmas.Nat.{mul-lt}
use Rattle.std.specs.Prelude.{FitsSigned, unsigned_abs}
use mir.Syntax.{w128}
use Rattle.plane.proofs.Meetings.{determinant_by_offsets}
use Rattle.exact_plane.proofs.Registers.{read, wide}

-- the size of a product
pub product_size : (a b : ℤ) (m n : ℕ) → unsigned_abs a < m → unsigned_abs b < n → unsigned_abs (a *ℤ b) < m * n
product_size a b m n small_a small_b = rw unsigned_abs-mul (mul-lt _ _ m n small_a small_b)

-- where it is below 2 ^ 126, it is computed as it is
pub product_fits : (a b : ℤ) (m n : ℕ) → unsigned_abs a < m → unsigned_abs b < n → m ≤ 2 ^ 126 → n ≤ 2 ^ 126 → m * n ≤ 2 ^ 126
    → FitsSigned w128 (wide a *ℤ wide b)
product_fits a b m n small_a small_b few_a few_b few =
    let fits_a : FitsSigned w128 a = omega (arith, ints) in
    let fits_b : FitsSigned w128 b = omega (arith, ints) in
    simp to_z-of_z (omega (arith, ints, product_size a b m n small_a small_b))

module _ (x w v s : ℤ)
    (small_x : unsigned_abs x < 2 ^ 23) (small_w : unsigned_abs w < 2 ^ 49) (small_v : unsigned_abs v < 2 ^ 24) (small_s : unsigned_abs s < 2 ^ 49) where
  -- a coordinate and a difference of coordinates with their weights
  weighted_first : unsigned_abs (x *ℤ w) < 2 ^ 72
  weighted_first = product_size x w (2 ^ 23) (2 ^ 49) small_x small_w

  weighted_second : unsigned_abs (v *ℤ s) < 2 ^ 73
  weighted_second = product_size v s (2 ^ 24) (2 ^ 49) small_v small_s

  weighted_is : wide (wide x *ℤ wide w) +ℤ wide (wide v *ℤ wide s) ≡ x *ℤ w +ℤ v *ℤ s
  weighted_is =
      let fits_x : FitsSigned w128 x = omega (arith, ints) in
      let fits_w : FitsSigned w128 w = omega (arith, ints) in
      let fits_v : FitsSigned w128 v = omega (arith, ints) in
      let fits_s : FitsSigned w128 s = omega (arith, ints) in
      let fits_first : FitsSigned w128 (x *ℤ w) = omega (arith, ints, weighted_first) in
      let fits_second : FitsSigned w128 (v *ℤ s) = omega (arith, ints, weighted_second) in
      simp to_z-of_z

  pub weighted_fits : FitsSigned w128 (wide (wide x *ℤ wide w) +ℤ wide (wide v *ℤ wide s))
  weighted_fits = rw weighted_is (omega (arith, ints, weighted_first, weighted_second))

  pub weighted_read : wide (wide (wide x *ℤ wide w) +ℤ wide (wide v *ℤ wide s)) ≡ x *ℤ w +ℤ v *ℤ s
  weighted_read = to_z-of_z w128 _ weighted_fits ∙ weighted_is

  pub weighted_small : unsigned_abs (wide (wide (wide x *ℤ wide w) +ℤ wide (wide v *ℤ wide s))) < 2 ^ 74
  weighted_small = rw weighted_read (omega (arith, ints, weighted_first, weighted_second))

module _ (p x w : ℤ) (small_p : unsigned_abs p < 2 ^ 75) (small_x : unsigned_abs x < 2 ^ 23) (small_w : unsigned_abs w < 2 ^ 50) where
  -- a part of a point less a coordinate with the weight
  offset_product : unsigned_abs (x *ℤ w) < 2 ^ 73
  offset_product = product_size x w (2 ^ 23) (2 ^ 50) small_x small_w

  offset_is : wide p -ℤ wide (wide x *ℤ wide w) ≡ p -ℤ x *ℤ w
  offset_is =
      let fits_p : FitsSigned w128 p = omega (arith, ints) in
      let fits_x : FitsSigned w128 x = omega (arith, ints) in
      let fits_w : FitsSigned w128 w = omega (arith, ints) in
      let fits_product : FitsSigned w128 (x *ℤ w) = omega (arith, ints, offset_product) in
      simp to_z-of_z

  pub offset_fits : FitsSigned w128 (wide p -ℤ wide (wide x *ℤ wide w))
  offset_fits = rw offset_is (omega (arith, ints, offset_product))

  pub offset_read : wide (wide p -ℤ wide (wide x *ℤ wide w)) ≡ p -ℤ x *ℤ w
  offset_read = to_z-of_z w128 _ offset_fits ∙ offset_is

  pub offset_small : unsigned_abs (wide (wide p -ℤ wide (wide x *ℤ wide w))) < 2 ^ 76
  offset_small = rw offset_read (omega (arith, ints, offset_product))

module _ (a b x y : ℤ)
    (small_a : unsigned_abs a < 2 ^ 24) (small_b : unsigned_abs b < 2 ^ 24) (small_x : unsigned_abs x < 2 ^ 76) (small_y : unsigned_abs y < 2 ^ 76) where
  -- two differences of coordinates with such offsets
  offsets_first : unsigned_abs (a *ℤ y) < 2 ^ 100
  offsets_first = product_size a y (2 ^ 24) (2 ^ 76) small_a small_y

  offsets_second : unsigned_abs (b *ℤ x) < 2 ^ 100
  offsets_second = product_size b x (2 ^ 24) (2 ^ 76) small_b small_x

  offsets_is : wide (wide (read a) *ℤ wide y) -ℤ wide (wide (read b) *ℤ wide x) ≡ a *ℤ y -ℤ b *ℤ x
  offsets_is =
      let short_a : FitsSigned w64 a = omega (arith, ints) in
      let short_b : FitsSigned w64 b = omega (arith, ints) in
      let fits_a : FitsSigned w128 a = omega (arith, ints) in
      let fits_b : FitsSigned w128 b = omega (arith, ints) in
      let fits_x : FitsSigned w128 x = omega (arith, ints) in
      let fits_y : FitsSigned w128 y = omega (arith, ints) in
      let fits_first : FitsSigned w128 (a *ℤ y) = omega (arith, ints, offsets_first) in
      let fits_second : FitsSigned w128 (b *ℤ x) = omega (arith, ints, offsets_second) in
      simp to_z-of_z

  pub offsets_first_fits : FitsSigned w128 (wide (read a) *ℤ wide y)
  offsets_first_fits =
      let short_a : FitsSigned w64 a = omega (arith, ints) in
      let same : read a ≡ a = to_z-of_z w64 a short_a in
      rw same (product_fits a y (2 ^ 24) (2 ^ 76) small_a small_y (omega arith) (omega arith) (omega arith))

  pub offsets_second_fits : FitsSigned w128 (wide (read b) *ℤ wide x)
  offsets_second_fits =
      let short_b : FitsSigned w64 b = omega (arith, ints) in
      let same : read b ≡ b = to_z-of_z w64 b short_b in
      rw same (product_fits b x (2 ^ 24) (2 ^ 76) small_b small_x (omega arith) (omega arith) (omega arith))

  pub offsets_fit : FitsSigned w128 (wide (wide (read a) *ℤ wide y) -ℤ wide (wide (read b) *ℤ wide x))
  offsets_fit = rw offsets_is (omega (arith, ints, offsets_first, offsets_second))

  pub offsets_read : wide (wide (wide (read a) *ℤ wide y) -ℤ wide (wide (read b) *ℤ wide x)) ≡ a *ℤ y -ℤ b *ℤ x
  offsets_read = to_z-of_z w128 _ offsets_fit ∙ offsets_is

  pub offsets_small : unsigned_abs (wide (wide (wide (read a) *ℤ wide y) -ℤ wide (wide (read b) *ℤ wide x))) < 2 ^ 101
  offsets_small = rw offsets_read (omega (arith, ints, offsets_first, offsets_second))

module _ (x w : ℤ) (small_x : unsigned_abs x < 2 ^ 75) (small_w : unsigned_abs w < 2 ^ 50) where
  -- a part of a point with the weight of another
  pub part_is : wide x *ℤ wide w ≡ x *ℤ w
  part_is =
      let fits_x : FitsSigned w128 x = omega (arith, ints) in
      let fits_w : FitsSigned w128 w = omega (arith, ints) in
      simp to_z-of_z

  pub part_fits : FitsSigned w128 (wide x *ℤ wide w)
  part_fits = rw part_is (omega (arith, ints, product_size x w (2 ^ 75) (2 ^ 50) small_x small_w))

  pub part_read : wide (wide x *ℤ wide w) ≡ x *ℤ w
  part_read = to_z-of_z w128 _ part_fits ∙ part_is

  pub part_small : unsigned_abs (wide (wide x *ℤ wide w)) < 2 ^ 125
  part_small = rw part_read (product_size x w (2 ^ 75) (2 ^ 50) small_x small_w)

-- all that it needs
pub ruleset part_product = (part_fits, part_read, part_small)

-- the cross product of a way and the offsets from its start is the determinant
pub ruleset offsets_are_determinant = (determinant_by_offsets, to_z-of_z)
