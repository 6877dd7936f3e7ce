-- A tiled piece that a shared side cuts from its first vertex to another one: the triangles that lie in each part tile it.
use Rattle.std.proofs.Common.{inl, inr, ℕ, List}
use Rattle.plane.specs.Point.{Point}
use Rattle.meshes.proofs.Boundaries.CutTilings.{LiesInPart, beside_both, first_is_part, second_is_part, side_covered}
use Rattle.meshes.proofs.Boundaries.PartTilings.{IsEdgeBetween, IsPartTiling}
use Rattle.meshes.proofs.Boundaries.TiledParts.{part_tiled}
use Rattle.meshes.proofs.Joins.{both_parts, first_part, second_part}
use Rattle.meshes.proofs.Parts.{IsShared, covered_swapped}
use Rattle.meshes.specs.declared.tri.Tri.{Tri}

module _ (corners : List Point) (v : ℕ) (ps : List ℕ) (z : ℕ) (qs : List ℕ) (tris : List Tri) (P : ℕ → Type 0)
    (tiling : IsPartTiling corners (both_parts v ps z qs) tris P) (k l : ℕ) (s : IsShared corners (both_parts v ps z qs) tris P v z k l)
    (inner : ¬ IsEdgeBetween (both_parts v ps z qs) v z) where
  pub first_tiled : IsPartTiling corners (first_part v ps z) tris (LiesInPart corners tris P (first_part v ps z))
  first_tiled =
      let (m, n, here, there, only) = beside_both corners v ps z qs tris P tiling k l s inner in
      part_tiled corners (both_parts v ps z qs) tris P tiling v z k l s inner (first_part v ps z) (second_part v z qs)
      (side_covered corners v ps z qs tris P tiling k l s inner) (first_is_part corners v ps z qs tris P tiling k l s inner) m n here there only

  pub second_tiled : IsPartTiling corners (second_part v z qs) tris (LiesInPart corners tris P (second_part v z qs))
  second_tiled =
      let (m, n, here, there, only) = beside_both corners v ps z qs tris P tiling k l s inner in
      part_tiled corners (both_parts v ps z qs) tris P tiling v z k l s inner (second_part v z qs) (first_part v ps z)
      (covered_swapped (side_covered corners v ps z qs tris P tiling k l s inner))
      (second_is_part corners v ps z qs tris P tiling k l s inner) n m there here
      (λ o within has. elim (only o within has) [ inl e ↦ inr e | inr e ↦ inl e ])
