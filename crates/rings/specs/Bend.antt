-- Bends at reflex vertices. The local property of the path: Lee and Preparata 1984.
use Rattle.std.specs.Prelude.{◌≡◌, ◌⊎◌, ℕ, ◌+◌, ◌<◌, List, length}
use Rattle.plane.specs.Cone.{IsInCone}
use Rattle.plane.specs.Prelude.{IsStraight, Point, whole}
use Rattle.rings.specs.Orientation.{IsReflex}
use Rattle.rings.specs.Ring.{vertex}

-- v is a reflex vertex of the ring
pub record IsReflexVertex (ring : List Point) (v : Point) : Type 0 where
  pub i : ℕ
  pub in_ring : i < length ring
  pub is_vertex : vertex ring i ≡ v
  pub reflex : IsReflex ring i

-- u and v are the ends of an edge of the ring
pub record AreNeighbours (ring : List Point) (u v : Point) : Type 0 where
  pub i : ℕ
  pub in_ring : i < length ring
  pub ends : ((vertex ring i ≡ u) × (vertex ring (i + 1) ≡ v)) ⊎ ((vertex ring i ≡ v) × (vertex ring (i + 1) ≡ u))

-- the way from p over v to q has a bend at v: v is a reflex vertex, the three points are not on one line, and all ring
-- neighbours of v are in the closed cone at v between the rays to p and to q
pub record IsBend (ring : List Point) (p v q : Point) : Type 0 where
  pub reflex : IsReflexVertex ring v
  pub turns : ¬ IsStraight (whole v) (whole p) (whole q)
  pub in_cone : (u : Point) → AreNeighbours ring v u → IsInCone (whole v) (whole p) (whole q) (whole u)
