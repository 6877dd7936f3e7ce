-- The kernel of a polygon: the points that see all of it. Lee and Preparata 1979.
use Rattle.std.specs.Prelude.{ℕ, ◌+◌, ◌<◌, List, length}
use Rattle.plane.specs.Prelude.{IsPoint, IsRight, Point, Triple, whole}
use Rattle.plane.specs.Region.{IsCornerList}
use Rattle.rings.specs.Inside.{IsIn}
use Rattle.rings.specs.Ring.{vertex}
use Rattle.rings.specs.Sees.{Sees}

-- the rational point p is in the ring and sees each rational point of it
pub record IsInKernel (ring : List Point) (p : Triple) : Type 0 where
  pub inside : IsIn ring p
  pub sees_all : (x : Triple) → IsPoint x → IsIn ring x → Sees ring p x

-- the corner list of the kernel
abbrev pub IsKernel : List Point → List Triple → Type 0
IsKernel ring corners = IsCornerList (IsInKernel ring) corners

-- p is right of no edge: it is in the closed half-planes to the left of all edges
abbrev pub IsRightOfNoEdge : List Point → Triple → Type 0
IsRightOfNoEdge ring p = (i : ℕ) → i < length ring → ¬ IsRight (whole (vertex ring i)) (whole (vertex ring (i + 1))) p
