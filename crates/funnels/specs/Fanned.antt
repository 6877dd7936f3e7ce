-- A vertex of a ring at which the ring is open from one ray round to another, with no edge in between. This project's own.
use Rattle.std.specs.List.{All}
use Rattle.std.specs.Prelude.{◌≡◌, ◌⊎◌, Bool, true, false, ℤ, neg_ℤ, List}
use Rattle.plane.specs.Prelude.{determinant, IsPoint, IsSame, On, Point, Triple, whole}
use Rattle.rings.specs.Prelude.{AreNeighbours, Sees}
use Rattle.funnels.specs.Fan.{IsFan}

-- positive where, seen from v, the second is left of the first, or on the other side right of it
abbrev pub turning : Bool → Point → Triple → Triple → ℤ
turning true v a b = determinant (whole v) a b
turning false v a b = neg_ℤ (determinant (whole v) a b)

-- u is a ring neighbour of v
abbrev pub IsNextTo : List Point → Point → Triple → Type 0
IsNextTo ring v u = (w : Point) × AreNeighbours ring v w × (u ≡ whole w)

-- v sees the rational point
abbrev pub IsOpenToward : List Point → Point → Triple → Type 0
IsOpenToward ring v d = IsPoint d × Sees ring (whole v) d

-- a fan at v from the ray to x round to r, over no ring neighbour: counterclockwise, or on the other side clockwise
pub record IsFanned (side : Bool) (ring : List Point) (v : Point) (x r : Triple) : Type 0 where
  pub base : Triple
  pub base_differs : ¬ IsSame base (whole v)
  pub base_open : IsOpenToward ring v base
  pub on_ray : On base (whole v) x ⊎ On x (whole v) base
  pub directions : List Triple
  pub fan : IsFan (turning side v) (IsNextTo ring v) base directions r
  pub all_open : All (IsOpenToward ring v) directions
