-- Which point comes before the last one on the path between two points. Guibas, Hershberger, Leven, Sharir and Tarjan 1987.
use Rattle.std.specs.Prelude.{◌≡◌, ◌-◌, ◌<◌, List, length}
use Rattle.plane.specs.Point.{Point}
use Rattle.rings.specs.Chain.{IsPath, point_at}

-- x comes just before t on the path from s
pub record IsPredecessor (ring : List Point) (s t x : Point) : Type 0 where
  pub path : List Point
  pub is_path : IsPath ring s t path
  pub more : 1 < length path
  pub is : point_at path (length path - 2) ≡ x
