-- Points in bounding boxes, and boxes that overlap. The bounding boxes of the textbooks.
use Rattle.std.specs.Prelude.{ℤ, ◌≤ℤ◌}
use Rattle.plane.specs.Point.{Point}
use Rattle.exact_plane.specs.declared.bounding_box.BoundingBox.{BoundingBox}

-- the point is in the box
pub record Encloses (box : BoundingBox) (p : Point) : Type 0 where
  pub west : box.west ≤ℤ p.x
  pub east : p.x ≤ℤ box.east
  pub south : box.south ≤ℤ p.y
  pub north : p.y ≤ℤ box.north

-- the numbers from a to b share one with those from c to d
pub record RangesOverlap (a b c d : ℤ) : Type 0 where
  pub first_reaches : a ≤ℤ d
  pub second_reaches : c ≤ℤ b

-- the boxes share a point
pub record Overlap (b c : BoundingBox) : Type 0 where
  pub in_x : RangesOverlap b.west b.east c.west c.east
  pub in_y : RangesOverlap b.south b.north c.south c.north
