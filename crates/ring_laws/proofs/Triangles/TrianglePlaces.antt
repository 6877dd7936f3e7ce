-- Where a rational point is to a counterclockwise triangle: inside, outside, or on a side.
use Rattle.std.proofs.Common.{inl, inr, pos, ◌≤ℤ◌}
use Rattle.integer_algebra.proofs.SignSteps.{weak, zero_not_negative}
use Rattle.integer_algebra.proofs.Signs.{is_negative, is_positive, is_zero, lt_or_le, sign}
use Rattle.plane.specs.Prelude.{determinant, IsInTriangle, IsLeft, IsPoint, IsRight, On, Point, Triple, whole}
use Rattle.ring_laws.proofs.Triangles.Triangles.{in_or_not, in_triangle, on_first_side, on_second_side, on_third_side}

-- left of all three sides
pub record IsInside (u v w : Point) (p : Triple) : Type 0 where
  pub left_of_first : IsLeft (whole u) (whole v) p
  pub left_of_second : IsLeft (whole v) (whole w) p
  pub left_of_third : IsLeft (whole w) (whole u) p

-- right of a side
pub data IsBeyond (u v w : Point) (p : Triple) : Type 0 where
  right_of_first : IsRight (whole u) (whole v) p → IsBeyond u v w p
  right_of_second : IsRight (whole v) (whole w) p → IsBeyond u v w p
  right_of_third : IsRight (whole w) (whole u) p → IsBeyond u v w p

-- on a side
pub data IsOnSide (u v w : Point) (p : Triple) : Type 0 where
  on_first : On p (whole u) (whole v) → IsOnSide u v w p
  on_second : On p (whole v) (whole w) → IsOnSide u v w p
  on_third : On p (whole w) (whole u) → IsOnSide u v w p

-- the three places
pub data Place (u v w : Point) (p : Triple) : Type 0 where
  inside : IsInside u v w p → Place u v w p
  outside : IsBeyond u v w p → Place u v w p
  on_border : IsInTriangle u v w p → IsOnSide u v w p → Place u v w p

-- a point that is outside is not in the closed triangle
pub outside_not_in : (u v w : Point) (p : Triple) → IsBeyond u v w p → ¬ (IsInTriangle u v w p)
outside_not_in u v w p (right_of_first h) t = t.not_right_of_first h
outside_not_in u v w p (right_of_second h) t = t.not_right_of_second h
outside_not_in u v w p (right_of_third h) t = t.not_right_of_third h

module _ (u v w : Point) (left : IsLeft (whole u) (whole v) (whole w)) (p : Triple) (at_p : IsPoint p) where
  -- a point that is not in the triangle, and not right of the first side, is right of another
  right_of_other : ¬ IsInTriangle u v w p → pos 0 ≤ℤ determinant (whole u) (whole v) p → IsBeyond u v w p
  right_of_other n first = elim (lt_or_le (determinant (whole v) (whole w) p) (pos 0)) [
    | inl h ↦ right_of_second h
    | inr second ↦ elim (lt_or_le (determinant (whole w) (whole u) p) (pos 0)) [
      | inl h ↦ right_of_third h
      | inr third ↦ absurd (n (in_triangle u v w p first second third))
    ]
  ]

  -- each rational point has one of them
  pub place_of : Place u v w p
  place_of = elim (in_or_not u v w p) [
    | inl t ↦ elim (sign (determinant (whole u) (whole v) p)) [
      | is_negative h ↦ absurd (t.not_right_of_first h)
      | is_zero first ↦ on_border t (on_first (on_first_side u v w left p at_p t first))
      | is_positive first ↦ elim (sign (determinant (whole v) (whole w) p)) [
        | is_negative h ↦ absurd (t.not_right_of_second h)
        | is_zero second ↦ on_border t (on_second (on_second_side u v w left p at_p t second))
        | is_positive second ↦ elim (sign (determinant (whole w) (whole u) p)) [
          | is_negative h ↦ absurd (t.not_right_of_third h)
          | is_zero third ↦ on_border t (on_third (on_third_side u v w left p at_p t third))
          | is_positive third ↦ inside (record { left_of_first = first; left_of_second = second; left_of_third = third })
        ]
      ]
    ]
    | inr n ↦ elim (sign (determinant (whole u) (whole v) p)) [
      | is_negative h ↦ outside (right_of_first h)
      | is_zero first ↦ outside (right_of_other n (zero_not_negative first))
      | is_positive first ↦ outside (right_of_other n (weak first))
    ]
  ]
