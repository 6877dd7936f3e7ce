-- Points that see each other in a ring: the segment between them lies in it. Visibility as in the textbooks.
use Rattle.std.specs.Prelude.{List}
use Rattle.plane.specs.Prelude.{IsPoint, On, Point, Triple}
use Rattle.rings.specs.Inside.{IsIn}

-- every rational point on the segment from p to q is in the ring
abbrev pub Sees : List Point → Triple → Triple → Type 0
Sees ring p q = (x : Triple) → IsPoint x → On x p q → IsIn ring x
