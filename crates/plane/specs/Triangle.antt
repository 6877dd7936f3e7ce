-- Closed triangles whose corners run counterclockwise. As in the textbooks.
use Rattle.std.specs.Prelude.{ℤ}
use Rattle.plane.specs.Point.{Point, Triple, whole}
use Rattle.plane.specs.Turn.{IsRight, determinant}

-- x is in the closed triangle with these corners, counterclockwise: it is right of no side
pub record IsInTriangle (u v w : Point) (x : Triple) : Type 0 where
  pub not_right_of_first : ¬ IsRight (whole u) (whole v) x
  pub not_right_of_second : ¬ IsRight (whole v) (whole w) x
  pub not_right_of_third : ¬ IsRight (whole w) (whole u) x

-- how far x is from the line through u and w, times a positive number: positive on the side of v
abbrev pub height_over : Point → Point → Triple → ℤ
height_over u w x = determinant (whole w) (whole u) x
