-- Lists of triangles that tile a piece, before it is known how many there are and that they are a tree. No public clause cites
-- this module.
use Rattle.std.specs.Prelude.{ℕ, ◌<◌, ◌≤◌, ◌↔◌, List, length}
use Rattle.plane.specs.Point.{IsPoint, Point, Triple}
use Rattle.rings.specs.Prelude.{IsIn, IsSimple}
use Rattle.meshes.specs.Fits.{IsInTri, IsPieceEdge, IsSideOfOne, IsSideOfTwo, IsStrictlyInTri, IsTriOf, piece_points}
use Rattle.meshes.specs.Side.{HasSide, tri_at}
use Rattle.meshes.specs.declared.tri.Tri.{Tri}

-- they cover the piece without overlap, and meet side by side
pub record IsTiling (corners : List Point) (piece : List ℕ) (tris : List Tri) : Type 0 where
  pub some : 3 ≤ length piece
  pub simple : IsSimple (piece_points corners piece)
  pub triangles : (k : ℕ) → k < length tris → IsTriOf corners piece (tri_at tris k)
  pub edges : (i j : ℕ) → IsPieceEdge piece i j → (k : ℕ) × IsSideOfOne tris i j k
  pub inner_sides : (i j k : ℕ) → k < length tris → HasSide (tri_at tris k) i j → ¬ IsPieceEdge piece i j → (l : ℕ) × IsSideOfTwo tris i j k l
  pub covers : (p : Triple) → IsPoint p → IsIn (piece_points corners piece) p ↔ ((k : ℕ) × (k < length tris) × IsInTri corners (tri_at tris k) p)
  pub apart : (p : Triple) → IsPoint p → (k l : ℕ) → k < l → l < length tris
      → ¬ (IsStrictlyInTri corners (tri_at tris k) p × IsStrictlyInTri corners (tri_at tris l) p)
