-- Rings with meshes as rows of a table, by their numbers, for tests.
use Rattle.std.specs.List.{range_with_len}
use Rattle.std.specs.Prelude.{ℕ, ◌<◌, ℤ, List, length, map}
use Rattle.plane.specs.Point.{Point}
use Rattle.meshes.specs.Boundary.{HaveBoundary}
use Rattle.meshes.specs.Fits.{IsTriOf}
use Rattle.meshes.specs.Side.{tri_at}
use Rattle.meshes.specs.declared.tri.Tri.{Tri}
use Rattle.ring_check.specs.Oriented.{oriented}

-- the point with these coordinates
abbrev pub point_with : ℤ × ℤ → Point
point_with at = record { x = at.0; y = at.1 }

-- the triangle with these corners
abbrev pub tri_of : ℕ × ℕ × ℕ → Tri
tri_of t = record { a = t.0; b = t.1; c = t.2 }

-- counterclockwise triangles with vertices of the ring as corners, whose sides cancel to its edges
pub record Suit (corners : List Point) (tris : List Tri) : Type 0 where
  pub triangles : (k : ℕ) → k < length tris → IsTriOf corners (range_with_len 0 (length corners)) (tri_at tris k)
  pub boundary : HaveBoundary (range_with_len 0 (length corners)) tris

-- so it is with the ring of this list
abbrev pub SuitRow : List (ℤ × ℤ) → List (ℕ × ℕ × ℕ) → Type 0
SuitRow points tris = Suit (oriented (map point_with points)).corners (map tri_of tris)
