-- A vertex of a tiled piece is in the triangles that have it as a corner, and in no others.
use Rattle.std.proofs.Common.{◌≡◌, ◌⊎◌, inl, inr, refl, sym, subst, ◌∙◌, ℕ, ◌+◌, ◌%◌, ℤ, pos, ◌<ℤ◌, List, length, get_or}
use Rattle.std.specs.List.{Contains}
use Rattle.integer_algebra.proofs.Signs.{is_negative, is_positive, is_zero, sign}
use Rattle.plane.proofs.Points.{same_whole, whole_is_point}
use Rattle.plane.proofs.Segments.{on_first_end, on_reversed}
use Rattle.plane.specs.Point.{Point, whole}
use Rattle.plane.specs.Segment.{On}
use Rattle.rings.specs.Edge.{edge}
use Rattle.rings.specs.Ring.{vertex}
use Rattle.ring_laws.proofs.Triangles.{on_first_side, on_second_side, on_third_side}
use Rattle.meshes.proofs.Boundaries.{IsPartTiling}
use Rattle.meshes.proofs.Joins.{place_of}
use Rattle.meshes.proofs.Parts.{inside_off_edges, one_vertex, shared_is_diagonal, shared_of, side_numbers, vertex_is_end, vertex_on_ring}
use Rattle.meshes.proofs.Sides.{edge_of_piece, edge_or_not}
use Rattle.meshes.specs.Fits.{IsInTri, IsPieceEdge}
use Rattle.meshes.specs.Side.{HasCorner, HasSide, tri_at}
use Rattle.meshes.specs.declared.tri.Tri.{Tri}

-- what is not negative is 0 or positive
zero_or_positive : {z : ℤ} → ¬ (z <ℤ pos 0) → (z ≡ pos 0) ⊎ (pos 0 <ℤ z)
zero_or_positive {z} h = elim (sign z) [ is_negative n ↦ absurd (h n) | is_zero e ↦ inl e | is_positive p ↦ inr p ]

module _ (corners : List Point) (piece : List ℕ) (tris : List Tri) (P : ℕ → Type 0) (tiling : IsPartTiling corners piece tris P) where
  module _ (x : ℕ) (has : Contains piece x) where
    -- a vertex on an edge is an end of it
    pub end_of_edge : (i j : ℕ) → Contains piece i → Contains piece j → IsPieceEdge piece i j
        → On (whole (vertex corners x)) (whole (vertex corners i)) (whole (vertex corners j)) → (x ≡ i) ⊎ (x ≡ j)
    end_of_edge i j has_i has_j e on =
        elim (vertex_is_end corners piece tris tiling.cover x has (edge (vertex corners i) (vertex corners j)) (edge_of_piece corners piece i j e) on) [
          | inl same ↦ inl (one_vertex corners piece tris tiling.cover x i has has_i (sym same))
          | inr same ↦ inr (one_vertex corners piece tris tiling.cover x j has has_j (sym same))
        ]

    -- and one on a side of a triangle is an end of the side
    pub end_of_tile_side : (k i j : ℕ) → P k → HasSide (tri_at tris k) i j
        → On (whole (vertex corners x)) (whole (vertex corners i)) (whole (vertex corners j)) → (x ≡ i) ⊎ (x ≡ j)
    end_of_tile_side k i j within side on =
        let (has_i, has_j, differ) = side_numbers corners piece tris tiling.cover k i j within (inl side) in
        elim (edge_or_not piece i j) [
          | inl e ↦ end_of_edge i j has_i has_j e on
          | inr none ↦ elim (edge_or_not piece j i) [
            | inl e ↦ elim (end_of_edge j i has_j has_i e (on_reversed (whole (vertex corners x)) (whole (vertex corners i)) (whole (vertex corners j)) on)) [
              | inl at_j ↦ inr at_j
              | inr at_i ↦ inl at_i
            ]
            | inr none_back ↦
                let (place, in_piece, is) = place_of piece x has in
                let next : ℕ = get_or piece ((place + 1) % length piece) 0 in
                let after : IsPieceEdge piece x next = record { place = place; in_piece = in_piece; from = is; to = refl } in
                let (l, in_l, two) = tiling.inner_sides i j k within side (λ e. elim e [ inl there ↦ none there | inr back ↦ none_back back ]) in
                let diagonal = shared_is_diagonal corners piece tris tiling.cover i j k l (shared_of corners piece tris tiling.cover i j k l two within in_l) in
                let met = diagonal.meets (edge (vertex corners x) (vertex corners next)) (edge_of_piece corners piece x next after) (whole (vertex corners x))
                (whole_is_point (vertex corners x)) (on_first_end (whole (vertex corners x)) (whole (vertex corners next))) on in
                let is_end = same_whole (vertex corners x) met.end met.same in
                elim met.of_second [
                  | inl e ↦ inl (one_vertex corners piece tris tiling.cover x i has has_i (is_end ∙ sym e))
                  | inr e ↦ inr (one_vertex corners piece tris tiling.cover x j has has_j (is_end ∙ sym e))
                ]
          ]
        ]

    -- an end of a side is a corner
    corner_of_end : (t : Tri) (i j : ℕ) → HasCorner t i → HasCorner t j → (x ≡ i) ⊎ (x ≡ j) → HasCorner t x
    corner_of_end t i j is_i is_j (inl e) = subst (HasCorner t) (sym e) is_i
    corner_of_end t i j is_i is_j (inr e) = subst (HasCorner t) (sym e) is_j

  -- a vertex in a triangle is a corner of it
  pub corner_in_tile : (i k : ℕ) → Contains piece i → P k → IsInTri corners (tri_at tris k) (whole (vertex corners i)) → HasCorner (tri_at tris k) i
  corner_in_tile i k has within inside =
      let t = tri_at tris k in
      let left = (tiling.cover.triangles k within).counterclockwise in
      let a = vertex corners t.a in
      let b = vertex corners t.b in
      let c = vertex corners t.c in
      let x = whole (vertex corners i) in
      let at_x = whole_is_point (vertex corners i) in
      let is_end = end_of_tile_side i has k in
      let is_corner = corner_of_end i has t in
      elim (zero_or_positive inside.not_right_of_first) [
        | inl on ↦ is_corner t.a t.b (inl refl) (inr (inl refl)) (is_end t.a t.b within (inl (refl, refl)) (on_first_side a b c left x at_x inside on))
        | inr first ↦ elim (zero_or_positive inside.not_right_of_second) [
          | inl on ↦
              is_corner t.b t.c (inr (inl refl)) (inr (inr refl))
              (is_end t.b t.c within (inr (inl (refl, refl))) (on_second_side a b c left x at_x inside on))
          | inr second ↦ elim (zero_or_positive inside.not_right_of_third) [
            | inl on ↦
                is_corner t.c t.a (inr (inr refl)) (inl refl)
                (is_end t.c t.a within (inr (inr (refl, refl))) (on_third_side a b c left x at_x inside on))
            | inr third ↦ absurd (inside_off_edges corners piece tris tiling.cover k within x at_x
                (record { left_of_first = first; left_of_second = second; left_of_third = third }) (vertex_on_ring corners piece i has))
          ]
        ]
      ]
