-- The upright boxes round two segments. The bounding boxes of the textbooks.
use Rattle.std.specs.Int.{int_max, int_min}
use Rattle.std.specs.Prelude.{ℤ, ◌≤ℤ◌}
use Rattle.plane.specs.Point.{Point}

-- the interval between a and b shares a number with the one between c and d
pub record IntervalsMeet (a b c d : ℤ) : Type 0 where
  pub first_reaches : int_min a b ≤ℤ int_max c d
  pub second_reaches : int_min c d ≤ℤ int_max a b

-- the smallest boxes round the segments from a to b and from c to d share a point
pub record BoxesMeet (a b c d : Point) : Type 0 where
  pub in_x : IntervalsMeet a.x b.x c.x d.x
  pub in_y : IntervalsMeet a.y b.y c.y d.y
