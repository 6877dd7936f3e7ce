-- A point of a counterclockwise triangle is a mean of the corners, so it is in the box round them.
use Rattle.std.proofs.Common.{◌≡◌, inl, inr, [], ◌∷◌, refl, ap, ◌∙◌, ℤ, pos, ◌+ℤ◌, ◌-ℤ◌, ◌*ℤ◌, neg_ℤ, ◌<ℤ◌, ◌≤ℤ◌, arith}
use Rattle.std.proofs.lemmas.Int.{ints}
use Rattle.integer_algebra.proofs.Laws.{mul-neg, zero-mul}
use Rattle.integer_algebra.proofs.Polynomial.{var, lit, ◌⊕◌, ◌⊖◌, ◌⊗◌, same_value}
use Rattle.integer_algebra.proofs.SignSteps.{at_least_unless}
use Rattle.integer_algebra.proofs.Signs.{mul_nonnegative}
use Rattle.plane.proofs.Turns.{areas_add, determinant_swap_first, four_triples_in_X, four_triples_in_Y}
use Rattle.plane.specs.Point.{Point, whole}
use Rattle.plane.specs.Triangle.{IsInTriangle}
use Rattle.plane.specs.Turn.{IsLeft}
use Rattle.exact_plane.specs.Outside.{IsOutside, IsOutsideBox}

-- ---- numbers

-- opposites are in the opposite order
opposite_order : {x y : ℤ} → x <ℤ y → neg_ℤ y <ℤ neg_ℤ x
opposite_order h = omega (arith, ints)

-- the sum of three numbers and a fourth is 0, though none is negative and the fourth is positive
no_such_sum : {f g h d m u v : ℤ} → pos 0 ≤ℤ f → pos 0 ≤ℤ g → pos 0 ≤ℤ h → pos 0 <ℤ d → f +ℤ g +ℤ h +ℤ d ≡ m -ℤ u -ℤ v
    → m ≡ pos 0 → u ≡ pos 0 → v ≡ pos 0 → ⊥
no_such_sum first second third positive e m_zero u_zero v_zero = omega (arith, ints)

-- weights s, -t and r that are not negative, with the positive sum d
module _ (s t r d : ℤ) (s_positive : pos 0 ≤ℤ s) (t_negative : pos 0 ≤ℤ (pos 0 -ℤ t)) (r_positive : pos 0 ≤ℤ r) (d_positive : pos 0 <ℤ d)
    (sum : s -ℤ t +ℤ r -ℤ d ≡ pos 0) where
  -- the mean w of x, y and z by them is not below all three,
  not_below : (x y z w : ℤ) → s *ℤ x -ℤ t *ℤ y +ℤ r *ℤ z -ℤ d *ℤ w ≡ pos 0 → w <ℤ x → w <ℤ y → w <ℤ z → ⊥
  not_below x y z w mean a b c =
      no_such_sum
      (mul_nonnegative s (x -ℤ w -ℤ pos 1) s_positive (omega (arith, ints)))
      (mul_nonnegative (pos 0 -ℤ t) (y -ℤ w -ℤ pos 1) t_negative (omega (arith, ints)))
      (mul_nonnegative r (z -ℤ w -ℤ pos 1) r_positive (omega (arith, ints)))
      d_positive
      (same_value
      (var 0 ⊗ (var 4 ⊖ var 7 ⊖ lit (pos 1)) ⊕ (lit (pos 0) ⊖ var 1) ⊗ (var 5 ⊖ var 7 ⊖ lit (pos 1)) ⊕ var 2 ⊗ (var 6 ⊖ var 7 ⊖ lit (pos 1)) ⊕ var 3)
      ((var 0 ⊗ var 4 ⊖ var 1 ⊗ var 5 ⊕ var 2 ⊗ var 6 ⊖ var 3 ⊗ var 7) ⊖ (var 0 ⊖ var 1 ⊕ var 2 ⊖ var 3) ⊗ var 7 ⊖ (var 0 ⊖ var 1 ⊕ var 2 ⊖ var 3))
      (s ∷ t ∷ r ∷ d ∷ x ∷ y ∷ z ∷ w ∷ []) refl)
      mean (ap (λ k. k *ℤ w) sum ∙ zero-mul w) sum

  -- nor above them, as their opposites show
  not_outside : (x y z w : ℤ) → s *ℤ x -ℤ t *ℤ y +ℤ r *ℤ z -ℤ d *ℤ w ≡ pos 0 → IsOutside w x y z → ⊥
  not_outside x y z w mean (inl h) = not_below x y z w mean h.0 h.1 h.2
  not_outside x y z w mean (inr h) =
      not_below (neg_ℤ x) (neg_ℤ y) (neg_ℤ z) (neg_ℤ w) (omega (arith, ints, mean, mul-neg s x, mul-neg t y, mul-neg r z, mul-neg d w))
      (opposite_order h.0) (opposite_order h.1) (opposite_order h.2)

-- the opposite of one
opposite_not_negative : (k m : ℤ) → k ≡ neg_ℤ m → ¬ (k <ℤ pos 0) → pos 0 ≤ℤ (pos 0 -ℤ m)
opposite_not_negative k m e h = grind (arith, ints)

-- so no point outside the box is in the triangle
pub outside_not_in : (a b c p : Point) → IsLeft (whole a) (whole b) (whole c) → IsOutsideBox p a b c → IsInTriangle a b c (whole p) → ⊥
outside_not_in a b c p left outside is =
    let first = at_least_unless is.not_right_of_second in
    let second = opposite_not_negative _ _ (determinant_swap_first (whole a) (whole c) (whole p)) is.not_right_of_third in
    let third = at_least_unless is.not_right_of_first in
    let none = not_outside _ _ _ _ first second third left (areas_add a b c p) in
    elim outside [
      | inl h ↦ none a.x b.x c.x p.x (four_triples_in_X (whole a) (whole b) (whole c) (whole p)) h
      | inr h ↦ none a.y b.y c.y p.y (four_triples_in_Y (whole a) (whole b) (whole c) (whole p)) h
    ]
