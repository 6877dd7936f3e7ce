-- What a point sees of a polygon. This project's own, after the visibility polygon.
use Rattle.std.specs.Prelude.{◌↔◌, List}
use Rattle.plane.specs.Point.{IsPoint, Point, Triple}
use Rattle.rings.specs.Inside.{IsIn}
use Rattle.rings.specs.Sees.{Sees}
use Rattle.rings.specs.Visible.{AreParts, IsInView, Part}

-- the parts of the edges that q sees; and what is in a triangle with one of them is all that it sees
pub record IsView (ring : List Point) (q : Triple) (parts : List Part) : Type 0 where
  pub seen : AreParts ring q parts
  pub view : (x : Triple) → IsPoint x → IsIn ring x → Sees ring q x ↔ IsInView q parts x
