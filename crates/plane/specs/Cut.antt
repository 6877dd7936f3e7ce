-- A convex region and what is left of it where a line cuts away what is right. This project's own.
use Rattle.std.specs.Prelude.{◌↔◌, List}
use Rattle.plane.specs.Convex.{AreConvex}
use Rattle.plane.specs.Point.{IsPoint, Triple}
use Rattle.plane.specs.Region.{IsInRegion}
use Rattle.plane.specs.Turn.{IsRight}

-- p is in the region with these corners, and not right of the line from a to b
abbrev pub IsUncut : (a b : Triple) → List Triple → Triple → Type 0
IsUncut a b corners p = IsInRegion corners p × ¬ IsRight a b p

-- the corners `rest` are convex, and their region is what is left of the other
pub record IsCut (a b : Triple) (corners rest : List Triple) : Type 0 where
  pub convex : AreConvex rest
  pub exact : (p : Triple) → IsPoint p → IsInRegion rest p ↔ IsUncut a b corners p
