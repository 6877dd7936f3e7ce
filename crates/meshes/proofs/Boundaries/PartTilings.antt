-- Triangles of a list, by their numbers, that tile a piece: all of them, or those in a part of a polygon that all of them tile.
use Rattle.std.proofs.Common.{◌≡◌, ◌⊎◌, inl, inr, ℕ, ◌<◌, ◌≤◌, List, ◌++◌, length, arith}
use Rattle.integer_algebra.proofs.Decisions.{either_or_not}
use Rattle.plane.specs.Point.{Point}
use Rattle.meshes.proofs.Joins.{same_rotated, tri_of_same}
use Rattle.meshes.proofs.Parts.{IsPaved, paved_by_tiling}
use Rattle.meshes.proofs.Sides.{edge_or_not}
use Rattle.meshes.proofs.Walks.{IsPlace}
use Rattle.meshes.specs.Prelude.{HasSide, HasSideBetween, IsPieceEdge, IsSideOfTwo, tri_at}
use Rattle.meshes.specs.declared.tri.Tri.{Tri}
use Rattle.meshes.specs.Tiling.{IsTiling}

-- an edge of the piece goes from one of the numbers to the other
abbrev pub IsEdgeBetween : List ℕ → ℕ → ℕ → Type 0
IsEdgeBetween piece i j = IsPieceEdge piece i j ⊎ IsPieceEdge piece j i

-- there is one or not
pub edge_between_or_not : (piece : List ℕ) (i j : ℕ) → IsEdgeBetween piece i j ⊎ (¬ IsEdgeBetween piece i j)
edge_between_or_not piece i j = either_or_not (edge_or_not piece i j) (edge_or_not piece j i)

-- of the triangles with numbers in P triangle k alone has a side between i and j
pub record IsSideOfOneIn (tris : List Tri) (P : ℕ → Type 0) (i j k : ℕ) : Type 0 where
  pub in_part : P k
  pub has : HasSideBetween (tri_at tris k) i j
  pub only : (l : ℕ) → P l → HasSideBetween (tri_at tris l) i j → l ≡ k

-- the triangles with numbers in P tile the piece: they cover it without overlap, and meet side by side
pub record IsPartTiling (corners : List Point) (piece : List ℕ) (tris : List Tri) (P : ℕ → Type 0) : Type 0 where
  pub some : 3 ≤ length piece
  pub in_list : (k : ℕ) → P k → k < length tris
  pub cover : IsPaved corners piece tris P
  pub edges : (i j : ℕ) → IsPieceEdge piece i j → (k : ℕ) × IsSideOfOneIn tris P i j k
  pub inner_sides : (i j k : ℕ) → P k → HasSide (tri_at tris k) i j → ¬ IsEdgeBetween piece i j → (l : ℕ) × P l × IsSideOfTwo tris i j k l

-- all triangles of a tiling do
pub all_tile : (corners : List Point) (piece : List ℕ) (tris : List Tri) → IsTiling corners piece tris
    → IsPartTiling corners piece tris (IsPlace tris)
all_tile corners piece tris tiling = record {
  some = tiling.some;
  in_list = λ k h. h;
  cover = paved_by_tiling tiling;
  edges = λ i j e. let (k, one) = tiling.edges i j e in (k, record { in_part = one.in_list; has = inl one.has; only = one.only });
  inner_sides = λ i j k h has inner. let (l, two) = tiling.inner_sides i j k h has (λ e. inner (inl e)) in (l, two.other_in_list, two);
}

-- those that tile a piece tile it read from another vertex on
pub tiling_rotated : (corners : List Point) (xs ys : List ℕ) (tris : List Tri) (P : ℕ → Type 0) → IsPartTiling corners (xs ++ ys) tris P
    → IsPartTiling corners (ys ++ xs) tris P
tiling_rotated corners xs ys tris P tiling =
    let same = same_rotated corners xs ys tiling.cover.simple in
    record {
      some = omega (arith, tiling.some, same.as_long);
      in_list = tiling.in_list;
      cover = record {
        long = omega (arith, tiling.cover.long, same.as_long);
        simple = same.simple;
        triangles = λ k h. tri_of_same corners (xs ++ ys) (ys ++ xs) same tris (tri_at tris k) (tiling.cover.triangles k h);
        covers = λ p at_p. (
          λ h. (tiling.cover.covers p at_p).0 ((same.points p at_p).1 h),
          λ h. (same.points p at_p).0 ((tiling.cover.covers p at_p).1 h),
        );
        apart = tiling.cover.apart;
      };
      edges = λ i j e. tiling.edges i j (same.edges_back i j e);
      inner_sides = λ i j k h has inner. tiling.inner_sides i j k h has (λ e. inner (elim e [
        | inl there ↦ inl (same.edges i j there)
        | inr back ↦ inr (same.edges j i back)
      ]));
    }
