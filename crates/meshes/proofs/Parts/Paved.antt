-- Triangles of a list that cover a piece without overlap: those of a mesh, or some of them, by their numbers.
use Rattle.std.proofs.Common.{ℕ, ◌<◌, List, length, arith}
use Rattle.std.specs.Prelude.{◌↔◌}
use Rattle.plane.specs.Point.{IsPoint, Point, Triple}
use Rattle.rings.specs.Prelude.{IsIn, IsSimple}
use Rattle.meshes.proofs.Walks.{IsPlace}
use Rattle.meshes.specs.Prelude.{FitsPiece, IsInTri, IsStrictlyInTri, IsTriOf, piece_points, tri_at}
use Rattle.meshes.specs.declared.tri.Tri.{Tri}
use Rattle.meshes.specs.Tiling.{IsTiling}

-- the triangles with numbers in P cover the piece without overlap
pub record IsPaved (corners : List Point) (piece : List ℕ) (tris : List Tri) (P : ℕ → Type 0) : Type 0 where
  pub long : 1 < length piece
  pub simple : IsSimple (piece_points corners piece)
  pub triangles : (k : ℕ) → P k → IsTriOf corners piece (tri_at tris k)
  pub covers : (p : Triple) → IsPoint p → IsIn (piece_points corners piece) p ↔ ((k : ℕ) × P k × IsInTri corners (tri_at tris k) p)
  pub apart : (p : Triple) → IsPoint p → (k l : ℕ) → k < l → P k → P l
      → ¬ (IsStrictlyInTri corners (tri_at tris k) p × IsStrictlyInTri corners (tri_at tris l) p)

module _ {corners : List Point} {piece : List ℕ} {tris : List Tri} where
  -- the triangles that fit a piece do,
  pub paved : FitsPiece corners piece tris → IsPaved corners piece tris (IsPlace tris)
  paved fits = record {
    long = omega (arith, fits.count);
    simple = fits.simple;
    triangles = fits.triangles;
    covers = fits.covers;
    apart = λ p at_p k l order in_k in_l. fits.apart p at_p k l order in_l;
  }

  -- and those that tile it
  pub paved_by_tiling : IsTiling corners piece tris → IsPaved corners piece tris (IsPlace tris)
  paved_by_tiling tiling = record {
    long = omega (arith, tiling.some);
    simple = tiling.simple;
    triangles = tiling.triangles;
    covers = tiling.covers;
    apart = λ p at_p k l order in_k in_l. tiling.apart p at_p k l order in_l;
  }
