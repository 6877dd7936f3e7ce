-- Laws of the order of rational points.
use Rattle.std.proofs.Common.{◌≡◌, ◌⊎◌, inl, inr, sym, ℤ, ◌+ℤ◌, ◌*ℤ◌, ◌<ℤ◌, ◌≤ℤ◌, arith}
use Rattle.std.proofs.lemmas.Int.{ints}
use Rattle.integer_algebra.proofs.Fractions.{fraction_eq_trans, fraction_le_lt_trans, fraction_le_trans, fraction_lt_le_trans}
use Rattle.integer_algebra.proofs.Laws.{add-mul, mul-add}
use Rattle.integer_algebra.proofs.Signs.{Comparison, comparison, is_above, is_below, is_equal}
use Rattle.integer_algebra.proofs.SignSteps.{weak_order}
use Rattle.plane.specs.Line.{mediant}
use Rattle.plane.specs.Prelude.{IsPoint, IsSame, Precedes, Triple}

-- p comes before q, or they are the same
abbrev pub NotAfter : Triple → Triple → Type 0
NotAfter p q = ((p.X *ℤ q.W) <ℤ (q.X *ℤ p.W)) ⊎ ((p.X *ℤ q.W ≡ q.X *ℤ p.W) × ((p.Y *ℤ q.W) ≤ℤ (q.Y *ℤ p.W)))

-- how two rational points compare
pub data Precedence (p q : Triple) : Type 0 where
  precedes : Precedes p q → Precedence p q
  same : IsSame p q → Precedence p q
  follows : Precedes q p → Precedence p q

-- ---- pairs of numbers: x and y of the one, u and v of the other

-- the first pair is less, by x and then by y
abbrev Less : (x y u v : ℤ) → Type 0
Less x y u v = (x <ℤ u) ⊎ ((x ≡ u) × (y <ℤ v))

-- not both are less
less_asym : (x y u v : ℤ) → Less x y u v → Less u v x y → ⊥
less_asym x y u v h k = grind (arith, ints)

-- nor is one less that is equal
less_differs : (x y u v : ℤ) → x ≡ u → y ≡ v → Less x y u v → ⊥
less_differs x y u v e f h = grind (arith, ints)

-- one is less or at most
less_or_not : (x y u v : ℤ) → Less x y u v ⊎ ((u <ℤ x) ⊎ ((u ≡ x) × (v ≤ℤ y)))
less_or_not x y u v = grind (arith, ints)

-- ---- two points

module _ (p q : Triple) where
  -- any two compare in one of these ways
  pub precedence : Precedence p q
  precedence = go (comparison (p.X *ℤ q.W) (q.X *ℤ p.W)) (comparison (p.Y *ℤ q.W) (q.Y *ℤ p.W))
    where
      go : Comparison (p.X *ℤ q.W) (q.X *ℤ p.W) → Comparison (p.Y *ℤ q.W) (q.Y *ℤ p.W) → Precedence p q
      go (is_below h) k = precedes (inl h)
      go (is_equal e) (is_below k) = precedes (inr (e, k))
      go (is_equal e) (is_equal f) = same (record { same_x = e; same_y = f })
      go (is_equal e) (is_above k) = follows (inr (sym e, k))
      go (is_above h) k = follows (inl h)

  -- at most one is before the other
  pub precedes_asym : Precedes p q → ¬ (Precedes q p)
  precedes_asym h k = less_asym _ _ _ _ h k

  -- and neither where they are the same
  pub precedes_differs : Precedes p q → ¬ (IsSame p q)
  precedes_differs h s = less_differs _ _ _ _ s.same_x s.same_y h

  -- one that is not before the other is after it or the same
  pub not_after_or_precedes : Precedes p q ⊎ NotAfter q p
  not_after_or_precedes = less_or_not (p.X *ℤ q.W) (p.Y *ℤ q.W) (q.X *ℤ p.W) (q.Y *ℤ p.W)

  -- not after, since it is before
  pub not_after_of_precedes : Precedes p q → NotAfter p q
  not_after_of_precedes (inl h) = inl h
  not_after_of_precedes (inr h) = let k = h.1 in inr (h.0, omega (arith, ints))

  -- since it is the same
  pub not_after_of_same : IsSame p q → NotAfter p q
  not_after_of_same s = let e = s.same_y in inr (s.same_x, omega (arith, ints))

  -- since the other is not before
  pub not_after_from : ¬ (Precedes q p) → NotAfter p q
  not_after_from n = elim precedence [
    | precedes h ↦ not_after_of_precedes h
    | same s ↦ not_after_of_same s
    | follows h ↦ absurd (n h)
  ]

-- what is not after another does not follow it
pub not_after_facts : (p q : Triple) → NotAfter p q → ¬ (Precedes q p)
not_after_facts p q (inl h) (inl k) = omega (arith, ints)
not_after_facts p q (inl h) (inr k) = let e = k.0 in omega (arith, ints)
not_after_facts p q (inr h) (inl k) = let e = h.0 in omega (arith, ints)
not_after_facts p q (inr h) (inr k) = let e = h.1 in let f = k.1 in omega (arith, ints)

-- two points of which neither is after the other are the same
pub not_after_antisym : (p q : Triple) → NotAfter p q → NotAfter q p → IsSame p q
not_after_antisym p q h k = elim (precedence p q) [
  | precedes n ↦ absurd (not_after_facts q p k n)
  | same s ↦ s
  | follows n ↦ absurd (not_after_facts p q h n)
]

-- ---- three points

-- what is equal is in order
equal_order : {x z : ℤ} → x ≡ z → x ≤ℤ z
equal_order h = omega (arith, ints)

module _ (p q r : Triple) (at_p : IsPoint p) (at_q : IsPoint q) (at_r : IsPoint r) where
  -- what is not after a second is not after a third that the second is not after
  pub not_after_trans : NotAfter p q → NotAfter q r → NotAfter p r
  not_after_trans (inl h) (inl k) = inl (fraction_lt_le_trans p.X p.W q.X q.W r.X r.W at_p at_q at_r h (weak_order k))
  not_after_trans (inl h) (inr k) = inl (fraction_lt_le_trans p.X p.W q.X q.W r.X r.W at_p at_q at_r h (equal_order k.0))
  not_after_trans (inr h) (inl k) = inl (fraction_le_lt_trans p.X p.W q.X q.W r.X r.W at_p at_q at_r (equal_order h.0) k)
  not_after_trans (inr h) (inr k) = inr (
    fraction_eq_trans p.X p.W q.X q.W r.X r.W at_p at_q at_r h.0 k.0,
    fraction_le_trans p.Y p.W q.Y q.W r.Y r.W at_p at_q at_r h.1 k.1,
  )

-- ---- mediants

-- one coordinate: the mediant of x/w and u/v against x/w
mediant_first : (x w u v : ℤ) → ((x *ℤ v) <ℤ (u *ℤ w) → (x *ℤ (w +ℤ v)) <ℤ ((x +ℤ u) *ℤ w)) × (x *ℤ v ≡ u *ℤ w → x *ℤ (w +ℤ v) ≡ (x +ℤ u) *ℤ w)
mediant_first x w u v = (λ h. omega (arith, ints, mul-add x w v, add-mul x u w), λ h. omega (arith, ints, mul-add x w v, add-mul x u w))

-- and against u/v
mediant_last : (x w u v : ℤ) → ((x *ℤ v) <ℤ (u *ℤ w) → ((x +ℤ u) *ℤ v) <ℤ (u *ℤ (w +ℤ v))) × (x *ℤ v ≡ u *ℤ w → (x +ℤ u) *ℤ v ≡ u *ℤ (w +ℤ v))
mediant_last x w u v = (λ h. omega (arith, ints, add-mul x u v, mul-add u w v), λ h. omega (arith, ints, add-mul x u v, mul-add u w v))

module _ (p q : Triple) where
  -- the mediant comes after the first of two points,
  pub mediant_follows : Precedes p q → Precedes p (mediant p q)
  mediant_follows (inl h) = inl ((mediant_first p.X p.W q.X q.W).0 h)
  mediant_follows (inr h) = inr ((mediant_first p.X p.W q.X q.W).1 h.0, (mediant_first p.Y p.W q.Y q.W).0 h.1)

  -- and before the last
  pub mediant_precedes : Precedes p q → Precedes (mediant p q) q
  mediant_precedes (inl h) = inl ((mediant_last p.X p.W q.X q.W).0 h)
  mediant_precedes (inr h) = inr ((mediant_last p.X p.W q.X q.W).1 h.0, (mediant_last p.Y p.W q.Y q.W).0 h.1)

  -- it is a point
  pub mediant_is_point : IsPoint p → IsPoint q → IsPoint (mediant p q)
  mediant_is_point at_p at_q = omega (arith, ints)
