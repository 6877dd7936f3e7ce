-- Points of the plane: x to the right, y upward. Rational points are the textbooks' homogeneous coordinates.
use Rattle.std.specs.Prelude.{◌≡◌, ◌≤◌, unsigned_abs, ℤ, pos, ◌*ℤ◌, ◌<ℤ◌}
use Rattle.plane.specs.declared.limits.TheConstants.{MAX_COORDINATE}

-- a whole-number point
pub record Point : Type 0 where
  pub x : ℤ
  pub y : ℤ

-- the greatest size of a coordinate that is taken from outside
abbrev pub IsInLimit : ℤ → Type 0
IsInLimit z = unsigned_abs z ≤ MAX_COORDINATE

-- both coordinates are within the limit
pub record IsInBounds (p : Point) : Type 0 where
  pub x_in_limit : IsInLimit p.x
  pub y_in_limit : IsInLimit p.y

-- three whole numbers; where W is positive they stand for the rational point (X / W, Y / W)
pub record Triple : Type 0 where
  pub X : ℤ
  pub Y : ℤ
  pub W : ℤ

abbrev pub IsPoint : Triple → Type 0
IsPoint p = pos 0 <ℤ p.W

-- the triple of a whole-number point
abbrev pub whole : Point → Triple
whole p = record { X = p.x; Y = p.y; W = pos 1 }

-- the two triples stand for the same rational point
pub record IsSame (p q : Triple) : Type 0 where
  pub same_x : p.X *ℤ q.W ≡ q.X *ℤ p.W
  pub same_y : p.Y *ℤ q.W ≡ q.Y *ℤ p.W
