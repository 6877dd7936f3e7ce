-- The square of all points whose coordinates are within the limit. This project's own.
use Rattle.std.specs.Prelude.{ℤ, pos, ◌-ℤ◌, ◌*ℤ◌, ◌≤ℤ◌}
use Rattle.plane.specs.Point.{Triple}
use Rattle.plane.specs.declared.limits.TheConstants.{MAX_COORDINATE}

-- z / w is within the limit, where w is positive
pub record IsWithin (z w : ℤ) : Type 0 where
  pub not_below : (pos 0 -ℤ pos MAX_COORDINATE *ℤ w) ≤ℤ z
  pub not_above : z ≤ℤ (pos MAX_COORDINATE *ℤ w)

-- so are both coordinates of p
pub record IsInSquare (p : Triple) : Type 0 where
  pub x_within : IsWithin p.X p.W
  pub y_within : IsWithin p.Y p.W
