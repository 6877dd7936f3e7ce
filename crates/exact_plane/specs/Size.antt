-- How large the parts of a rational point may be, so that all that is computed of it fits. This project's own.
use Rattle.std.specs.Prelude.{◌<◌, ◌^◌, unsigned_abs}
use Rattle.plane.specs.Point.{IsPoint, Triple}

-- what holds of every `Hom`
pub record IsSized (p : Triple) : Type 0 where
  pub rational : IsPoint p
  pub X_small : unsigned_abs p.X < 2 ^ 75
  pub Y_small : unsigned_abs p.Y < 2 ^ 75
  pub W_small : unsigned_abs p.W < 2 ^ 50

-- half as large, so that the mediant of two such points is a `Hom`
pub record IsNarrow (p : Triple) : Type 0 where
  pub X_narrow : unsigned_abs p.X < 2 ^ 74
  pub Y_narrow : unsigned_abs p.Y < 2 ^ 74
  pub W_narrow : unsigned_abs p.W < 2 ^ 49
