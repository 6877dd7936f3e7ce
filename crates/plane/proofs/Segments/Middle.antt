-- The middle of the segment between two whole points.
use Rattle.std.proofs.Common.{◌≡◌, refl, pos, ◌+ℤ◌, arith}
use Rattle.std.proofs.lemmas.Int.{ints}
use Rattle.integer_algebra.proofs.SignSteps.{natural_not_negative, one_positive}
use Rattle.plane.proofs.Order.{same_coordinates}
use Rattle.plane.proofs.Points.{whole_is_point}
use Rattle.plane.proofs.Segments.Sides.{IsWithin}
use Rattle.plane.proofs.Turns.{on_of_combination}
use Rattle.plane.specs.Prelude.{IsPoint, IsSame, On, Point, Triple, whole}

-- the middle of the segment from u to w
abbrev pub middle : Point → Point → Triple
middle u w = record { X = u.x +ℤ w.x; Y = u.y +ℤ w.y; W = pos 2 }

-- it is within the segment
pub middle_within : (u w : Point) → IsWithin (middle u w) (whole u) (whole w)
middle_within u w = record {
  combination = record {
    k = pos 1;
    l = pos 1;
    m = pos 1;
    k_positive = one_positive;
    l_nonnegative = natural_not_negative 1;
    m_nonnegative = natural_not_negative 1;
    in_X = omega (arith, ints);
    in_Y = omega (arith, ints);
    in_W = refl;
  };
  first_weighs = one_positive;
  last_weighs = one_positive;
}

-- where the middle is the first end, the ends are equal,
pub middle_first : (u w : Point) → IsSame (middle u w) (whole u) → u ≡ w
middle_first u w s =
    let ex = s.same_x in
    let ey = s.same_y in
    same_coordinates u w (omega (arith, ints)) (omega (arith, ints))

-- and so they are where it is the last
pub middle_last : (u w : Point) → IsSame (middle u w) (whole w) → u ≡ w
middle_last u w s =
    let ex = s.same_x in
    let ey = s.same_y in
    same_coordinates u w (omega (arith, ints)) (omega (arith, ints))

-- the middle is a rational point
pub middle_is_point : (u w : Point) → IsPoint (middle u w)
middle_is_point u w = omega (arith, ints)

-- it is on the segment
pub middle_on : (u w : Point) → On (middle u w) (whole u) (whole w)
middle_on u w =
    on_of_combination (middle u w) (whole u) (whole w) (middle_is_point u w) (whole_is_point u) (whole_is_point w)
    (middle_within u w).combination
