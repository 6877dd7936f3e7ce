-- Edges that are above a point, or below it: the point is not on them.
use Rattle.std.proofs.Common.{◌≡◌, ◌⊎◌, inl, inr, ℤ, ◌*ℤ◌, ◌<ℤ◌, arith}
use Rattle.std.proofs.lemmas.Int.{clamps, ints}
use Rattle.std.specs.Int.{int_max, int_min}
use Rattle.plane.proofs.Segments.{IsInInterval, within_y}
use Rattle.plane.proofs.Turns.{combination_of_ends}
use Rattle.plane.specs.Point.{IsPoint, Point, Triple, whole}
use Rattle.plane.specs.Segment.{On}

-- the greater of two numbers is one of them,
max_is : (a b : ℤ) → (int_max a b ≡ a) ⊎ (int_max a b ≡ b)
max_is a b = grind (arith, ints, clamps)

-- and so is the lesser
min_is : (a b : ℤ) → (int_min a b ≡ a) ⊎ (int_min a b ≡ b)
min_is a b = grind (arith, ints, clamps)

module _ (x w a b : ℤ) (h : IsInInterval x w a b) where
  -- what is within an interval is not above both of its ends,
  within_not_above : (a *ℤ w) <ℤ x → (b *ℤ w) <ℤ x → ⊥
  within_not_above from to = elim (max_is a b) [
    | inl e ↦ let k = rw e at h.greatest in omega (arith, ints)
    | inr e ↦ let k = rw e at h.greatest in omega (arith, ints)
  ]

  -- nor below both
  within_not_below : x <ℤ (a *ℤ w) → x <ℤ (b *ℤ w) → ⊥
  within_not_below from to = elim (min_is a b) [
    | inl e ↦ let k = rw e at h.least in omega (arith, ints)
    | inr e ↦ let k = rw e at h.least in omega (arith, ints)
  ]

module _ (a b : Point) (p : Triple) (at_p : IsPoint p) where
  -- a point is not on an edge that is below it,
  pub not_on_below : (a.y *ℤ p.W) <ℤ p.Y → (b.y *ℤ p.W) <ℤ p.Y → ¬ (On p (whole a) (whole b))
  not_on_below from to on = within_not_above p.Y p.W a.y b.y (within_y p a b (combination_of_ends p a b at_p on)) from to

  -- nor on one that is above it
  pub not_on_above : p.Y <ℤ (a.y *ℤ p.W) → p.Y <ℤ (b.y *ℤ p.W) → ¬ (On p (whole a) (whole b))
  not_on_above from to on = within_not_below p.Y p.W a.y b.y (within_y p a b (combination_of_ends p a b at_p on)) from to
