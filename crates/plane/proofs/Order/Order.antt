-- Laws of the order of whole points.
use Rattle.std.proofs.Common.{◌≡◌, ◌⊎◌, inl, inr, subst, ◌-ℤ◌, ◌≤ℤ◌, arith, sym}
use Rattle.std.proofs.lemmas.Int.{ints}
use Rattle.integer_algebra.proofs.Signs.{Sign, is_negative, is_positive, is_zero, sign}
use Rattle.plane.specs.Prelude.{IsBefore, IsBetween, Point, Precedes, whole}

-- how two points compare
pub data Comparison (p q : Point) : Type 0 where
  before : IsBefore p q → Comparison p q
  equal : p ≡ q → Comparison p q
  after : IsBefore q p → Comparison p q

-- points with the same coordinates are equal
pub same_coordinates : (p q : Point) → p.x ≡ q.x → p.y ≡ q.y → p ≡ q
same_coordinates p q e f = λ i. record { x = e i; y = f i }

-- each two points compare in one of these ways
pub compare_points : (p q : Point) → Comparison p q
compare_points p q = go (sign (p.x -ℤ q.x)) (sign (p.y -ℤ q.y))
  where
    go : Sign (p.x -ℤ q.x) → Sign (p.y -ℤ q.y) → Comparison p q
    go (is_negative h) k = before (inl (omega (arith, ints)))
    go (is_zero e) (is_negative k) = before (inr (omega (arith, ints), omega (arith, ints)))
    go (is_zero e) (is_zero k) = equal (same_coordinates p q (omega (arith, ints)) (omega (arith, ints)))
    go (is_zero e) (is_positive k) = after (inr (omega (arith, ints), omega (arith, ints)))
    go (is_positive h) k = after (inl (omega (arith, ints)))

-- of two points at most one is before the other
pub before_asym : (p q : Point) → IsBefore p q → ¬ (IsBefore q p)
before_asym p q (inl h) (inl k) = omega (arith, ints)
before_asym p q (inl h) (inr k) = omega (arith, ints)
before_asym p q (inr h) (inl k) = omega (arith, ints)
before_asym p q (inr h) (inr k) = omega (arith, ints)

-- no point is before itself
pub before_irrefl : (p : Point) → ¬ (IsBefore p p)
before_irrefl p h = before_asym p p h h

-- two points of which one is before the other differ
pub before_differs : (p q : Point) → IsBefore p q → ¬ (p ≡ q)
before_differs p q h e = before_irrefl q (subst (λ (r : Point). IsBefore r q) e h)

-- one point is before another, or it is not
pub before_or_not : (p q : Point) → IsBefore p q ⊎ (¬ IsBefore p q)
before_or_not p q = elim (compare_points p q) [
  | before h ↦ inl h
  | equal e ↦ inr (λ h. before_differs p q h e)
  | after h ↦ inr (before_asym q p h)
]

-- a whole point that precedes another is before it
pub before_of_precedes : (p q : Point) → Precedes (whole p) (whole q) → IsBefore p q
before_of_precedes p q (inl h) = inl (omega (arith, ints))
before_of_precedes p q (inr h) = let e = h.0 in let k = h.1 in inr (omega (arith, ints), omega (arith, ints))

-- two points are one or not
pub point_or_other : (p q : Point) → (p ≡ q) ⊎ (¬ (p ≡ q))
point_or_other p q = elim (compare_points p q) [
  | before h ↦ inr (before_differs p q h)
  | equal e ↦ inl e
  | after h ↦ inr (λ e. before_differs q p h (sym e))
]

-- a point that is before a second is before a third that the second is before
pub before_trans : (p q r : Point) → IsBefore p q → IsBefore q r → IsBefore p r
before_trans p q r h k = grind (arith, ints)

-- what comes between two points comes between them in the other order
pub between_reversed : (a p b : Point) → IsBetween a p b → IsBetween b p a
between_reversed a p b h = record { not_after = λ k. h.not_after (k.1, k.0); not_before = λ k. h.not_before (k.1, k.0) }

module _ (p q : Point) (h : ¬ (IsBefore q p)) where
  -- a point that is not after another is not to its right
  pub x_at_most : p.x ≤ℤ q.x
  x_at_most = grind (arith, ints)

  -- and not above it on one vertical
  pub y_at_most : p.x ≡ q.x → p.y ≤ℤ q.y
  y_at_most e = grind (arith, ints)

module _ (a p b : Point) (ordered : IsBefore a b) (between : IsBetween a p b) where
  -- what comes between two points is not before the first of them
  pub not_before_first : ¬ (IsBefore p a)
  not_before_first h = between.not_before (h, before_trans p a b h ordered)

  -- and not after the last
  pub not_after_last : ¬ (IsBefore b p)
  not_after_last h = between.not_after (before_trans a b p ordered h, h)

-- between a point and itself there is nothing else
pub between_equal : (a p : Point) → IsBetween a p a → p ≡ a
between_equal a p h = go (compare_points p a)
  where
    go : Comparison p a → p ≡ a
    go (before k) = absurd (h.not_before (k, k))
    go (equal e) = e
    go (after k) = absurd (h.not_after (k, k))
