-- Points in an upright box whose sides go through four points. The bounding boxes of the textbooks.
use Rattle.std.specs.Prelude.{◌≤ℤ◌}
use Rattle.plane.specs.Point.{Point}

-- p is neither left of `west` nor right of `east`, and neither below `south` nor above `north`
pub record IsWithin (west east south north p : Point) : Type 0 where
  pub not_left : west.x ≤ℤ p.x
  pub not_right : p.x ≤ℤ east.x
  pub not_below : south.y ≤ℤ p.y
  pub not_above : p.y ≤ℤ north.y
