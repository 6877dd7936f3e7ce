-- A corner of a triangle of a mesh, seen from either side, and the order in which a chain goes along a walk. This project's own.
use Rattle.std.specs.Prelude.{◌≡◌, ℕ, ◌+◌, ◌<◌, Bool, true, false, pos, ◌≤ℤ◌, List, length}
use Rattle.plane.specs.Point.{Point, Triple, whole}
use Rattle.rings.specs.Prelude.{IsInner, point_at, vertex}
use Rattle.meshes.specs.Prelude.{HasSide, IsInTri}
use Rattle.meshes.specs.declared.tri.Tri.{Tri}
use Rattle.meshes.specs.Laws.{CrossesSide, walk_tri}
use Rattle.funnels.specs.Fanned.{turning}

-- the triangle has the sides from `before` to corner v and from v to `after`; or, on the other side, in the other direction
abbrev pub HasCornerOn : Bool → Tri → ℕ → ℕ → ℕ → Type 0
HasCornerOn true t before v after = HasSide t before v × HasSide t v after
HasCornerOn false t before v after = HasSide t v before × HasSide t after v

-- the ray from v to y is in the closed angle of such a triangle there
pub record IsInAngle (side : Bool) (corners : List Point) (before v after : ℕ) (y : Triple) : Type 0 where
  pub from_after : pos 0 ≤ℤ turning side (vertex corners v) (whole (vertex corners after)) y
  pub to_before : pos 0 ≤ℤ turning side (vertex corners v) y (whole (vertex corners before))

-- place m is the first of the walk whose triangle has the rational point
pub record IsFirstWith (corners : List Point) (tris : List Tri) (walk : List ℕ) (x : Triple) (m : ℕ) : Type 0 where
  pub within : m < length walk
  pub has : IsInTri corners (walk_tri tris walk m) x
  pub least : (l : ℕ) → l < m → ¬ IsInTri corners (walk_tri tris walk l) x

-- each point of the chain after the first is in a triangle of the walk, the first such triangles come one after the other, and the
-- walk leaves that of an inner point over a side at the point
pub record FollowsWalk (corners : List Point) (tris : List Tri) (walk : List ℕ) (chain : List Point) : Type 0 where
  pub place : ℕ → ℕ
  pub first : (a : ℕ) → 0 < a → a < length chain → IsFirstWith corners tris walk (whole (point_at chain a)) (place a)
  pub rises : (a : ℕ) → 0 < a → a + 1 < length chain → place a < place (a + 1)
  pub leaves : (a : ℕ) → IsInner chain a → (i : ℕ) × (j : ℕ) × CrossesSide tris walk (place a) i j × (point_at chain a ≡ vertex corners i)
