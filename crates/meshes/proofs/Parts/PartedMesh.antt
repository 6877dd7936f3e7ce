-- A shared side parts a mesh: the triangles beside it lie in different pieces, and those that share another side in one.
use Rattle.std.proofs.Common.{◌≡◌, ◌⊎◌, inl, inr, sym, ap, subst, ◌∙◌, List, length, get_or, ℕ, ◌<◌}
use Rattle.std.specs.List.{Contains}
use Rattle.plane.proofs.Points.{same_whole, whole_is_point}
use Rattle.plane.proofs.Segments.{on_first_end, on_last_end, on_reversed, middle, middle_first, middle_is_point, middle_last, middle_on}
use Rattle.plane.specs.Prelude.{IsPoint, On, Point, Triple, whole}
use Rattle.rings.proofs.Vertices.{on_some_of}
use Rattle.rings.specs.Apart.{IsApartRing}
use Rattle.rings.specs.Prelude.{Edge, edge, edges_of, HasEdge, IsIn, IsOn, vertex}
use Rattle.ring_laws.proofs.Diagonals.{AreBoth}
use Rattle.ring_laws.specs.Diagonal.{IsDiagonal}
use Rattle.meshes.proofs.Joins.{between_ends}
use Rattle.meshes.proofs.Parts.PieceOfTriangle.{IsCovered, LiesIn, covered_swapped, lies_in_one}
use Rattle.meshes.proofs.Parts.MeshDiagonals.{IsShared, edge_at_vertex, in_one, left_of_outer, on_from, one_vertex, outer_sides, ring_apart}
use Rattle.meshes.proofs.Parts.MeshDiagonals.{shared_is_diagonal, vertex_place}
use Rattle.meshes.proofs.Parts.OpenRegions.{region_off_edges}
use Rattle.meshes.proofs.Parts.Opposite.{opposite}
use Rattle.meshes.proofs.Parts.Paved.{IsPaved}
use Rattle.meshes.proofs.Parts.Splits.{IsSplit, split_by}
use Rattle.meshes.specs.Prelude.{HasSideBetween, IsInTri, piece_points, tri_at}
use Rattle.meshes.specs.declared.tri.Tri.{Tri}

-- two pieces cover the ring and share only points of the side; triangle k lies in the first, and triangle l in the second
pub record IsParted (corners : List Point) (piece : List ℕ) (tris : List Tri) (i j k l : ℕ) : Type 0 where
  pub first : List Point
  pub second : List Point
  pub covered : IsCovered (piece_points corners piece) first second (whole (vertex corners i)) (whole (vertex corners j))
  pub near_lies : LiesIn corners tris first k
  pub far_lies : LiesIn corners tris second l

module _ (corners : List Point) (piece : List ℕ) (tris : List Tri) {P : ℕ → Type 0} (fits : IsPaved corners piece tris P) where
  -- the points of a side are in the triangle
  pub side_in : (n i j : ℕ) → P n → HasSideBetween (tri_at tris n) i j → (x : Triple) → IsPoint x
      → On x (whole (vertex corners i)) (whole (vertex corners j)) → IsInTri corners (tri_at tris n) x
  side_in n i j within (inl has) x at_x on =
      let (c, o) = opposite corners (tri_at tris n) (fits.triangles n within).counterclockwise i j has in o.side x at_x on
  side_in n i j within (inr has) x at_x on =
      let (c, o) = opposite corners (tri_at tris n) (fits.triangles n within).counterclockwise j i has in
      o.side x at_x (on_reversed x (whole (vertex corners i)) (whole (vertex corners j)) on)

  -- the ends of a side are numbers of vertices, and different
  pub side_numbers : (n i j : ℕ) → P n → HasSideBetween (tri_at tris n) i j → Contains piece i × Contains piece j × (¬ (i ≡ j))
  side_numbers n i j within has = between_ends corners piece (tri_at tris n) (fits.triangles n within) i j has

  -- they are in the piece that the triangle lies in
  pub ends_in : (part : List Point) (n i j : ℕ) → P n → HasSideBetween (tri_at tris n) i j → LiesIn corners tris part n
      → IsIn part (whole (vertex corners i)) × IsIn part (whole (vertex corners j))
  ends_in part n i j within has lies =
      let a = whole (vertex corners i) in
      let b = whole (vertex corners j) in
      let at_a = whole_is_point (vertex corners i) in
      let at_b = whole_is_point (vertex corners j) in (
        lies a at_a (side_in n i j within has a at_a (on_first_end a b)),
        lies b at_b (side_in n i j within has b at_b (on_last_end a b)),
      )

  module _ (i j k l : ℕ) (s : IsShared corners piece tris P i j k l) where
    -- the triangles beside the side do not both lie in a piece of which it is an edge
    pub not_in_one : (part : List Point) → IsApartRing part → 1 < length part → (e : Edge) → HasEdge (edges_of part) e
        → IsOn e (middle (vertex corners i) (vertex corners j)) → LiesIn corners tris part k → LiesIn corners tris part l → ⊥
    not_in_one part apart long e has on_e lies_k lies_l =
        let a = vertex corners i in
        let b = vertex corners j in
        let m = middle a b in
        let at_m = middle_is_point a b in
        let differ : ¬ (a ≡ b) = λ same. s.differ (one_vertex corners piece tris fits i j s.from_within s.to_within same) in
        let here = left_of_outer corners (tri_at tris k) (tri_at tris l) a b s.c s.d s.near s.far m at_m (middle_on a b)
        (λ same. differ (middle_first a b same)) (λ same. differ (middle_last a b same)) in
        region_off_edges part apart long (outer_sides a b s.c s.d)
        (λ y at_y h. elim (in_one corners (tri_at tris k) (tri_at tris l) a b s.c s.d s.near s.far y h) [
          | inl t ↦ lies_k y at_y t
          | inr t ↦ lies_l y at_y t
        ])
        m at_m here (on_some_of m e (edges_of part) has on_e)

    -- so the side parts the mesh
    parted_by : IsSplit (piece_points corners piece) (vertex corners i) (vertex corners j) → IsParted corners piece tris i j k l
    parted_by split =
        let a = vertex corners i in
        let b = vertex corners j in
        let pieces = lies_in_one corners piece tris fits i j k l s split.first split.second split.covered in
        let in_first = not_in_one split.first split.first_apart split.first_long (edge b a) split.first_has
        (on_reversed (middle a b) (whole a) (whole b) (middle_on a b)) in
        let in_second = not_in_one split.second split.second_apart split.second_long (edge a b) split.second_has (middle_on a b) in
        elim (pieces k s.near_in) [
          | inl near ↦ elim (pieces l s.far_in) [
            | inl far ↦ absurd (in_first near far)
            | inr far ↦ record { first = split.first; second = split.second; covered = split.covered; near_lies = near; far_lies = far }
          ]
          | inr near ↦ elim (pieces l s.far_in) [
            | inl far ↦ record { first = split.second; second = split.first; covered = covered_swapped split.covered; near_lies = near; far_lies = far }
            | inr far ↦ absurd (in_second near far)
          ]
        ]

    pub parted : IsParted corners piece tris i j k l
    parted =
        let ring = piece_points corners piece in
        let (r, in_r, is_i, number_i) = vertex_place corners piece i s.from_within in
        let (t, in_t, is_j, number_j) = vertex_place corners piece j s.to_within in
        let differ : ¬ (r ≡ t) = λ e. s.differ (sym number_i ∙ ap (λ n. get_or piece n 0) e ∙ number_j) in
        let diagonal : IsDiagonal ring (vertex ring r) (vertex ring t) =
        subst (λ a. IsDiagonal ring a (vertex ring t)) (sym is_i)
        (subst (λ b. IsDiagonal ring (vertex corners i) b) (sym is_j) (shared_is_diagonal corners piece tris fits i j k l s)) in
        parted_by (subst (λ a. IsSplit ring a (vertex corners j)) is_i
        (subst (λ b. IsSplit ring (vertex ring r) b) is_j (split_by ring (ring_apart corners piece tris fits) r t in_r in_t differ diagonal)))

    module _ (first second : List Point) (c : IsCovered (piece_points corners piece) first second (whole (vertex corners i)) (whole (vertex corners j))) where
      -- a vertex on the side is an end of it
      pub end_of_side : (x : ℕ) → Contains piece x → On (whole (vertex corners x)) (whole (vertex corners i)) (whole (vertex corners j)) → (x ≡ i) ⊎ (x ≡ j)
      end_of_side x within on =
          let v = vertex corners x in
          let (e, has, is) = edge_at_vertex corners piece x within in
          let common = (shared_is_diagonal corners piece tris fits i j k l s).meets e has (whole v) (whole_is_point v)
          (on_from e v is) on in
          let same = same_whole v common.end common.same in
          elim common.of_second [
            | inl e ↦ inl (one_vertex corners piece tris fits x i within s.from_within (same ∙ sym e))
            | inr e ↦ inr (one_vertex corners piece tris fits x j within s.to_within (same ∙ sym e))
          ]

      -- two vertices in both pieces are its ends
      pub ends_of_both : (x y : ℕ) → Contains piece x → Contains piece y → ¬ (x ≡ y)
          → IsIn first (whole (vertex corners x)) → IsIn second (whole (vertex corners x))
          → IsIn first (whole (vertex corners y)) → IsIn second (whole (vertex corners y)) → AreBoth i j x y
      ends_of_both x y has_x has_y differ first_x second_x first_y second_y =
          both_of (end_of_side x has_x (c.common (whole (vertex corners x)) (whole_is_point (vertex corners x)) first_x second_x))
          (end_of_side y has_y (c.common (whole (vertex corners y)) (whole_is_point (vertex corners y)) first_y second_y)) differ
        where
          both_of : (x ≡ i) ⊎ (x ≡ j) → (y ≡ i) ⊎ (y ≡ j) → ¬ (x ≡ y) → AreBoth i j x y
          both_of (inl e) (inl f) n = absurd (n (e ∙ sym f))
          both_of (inl e) (inr f) n = inl (e, f)
          both_of (inr e) (inl f) n = inr (e, f)
          both_of (inr e) (inr f) n = absurd (n (e ∙ sym f))

      -- so two triangles in different pieces share no other side
      pub shared_is_this : (m n x y : ℕ) → P m → P n → HasSideBetween (tri_at tris m) x y → HasSideBetween (tri_at tris n) x y
          → LiesIn corners tris first m → LiesIn corners tris second n → AreBoth i j x y
      shared_is_this m n x y in_m in_n has_m has_n lies_m lies_n =
          let numbers = side_numbers m x y in_m has_m in
          let in_first = ends_in first m x y in_m has_m lies_m in
          let in_second = ends_in second n x y in_n has_n lies_n in
          ends_of_both x y numbers.0 numbers.1 numbers.2 in_first.0 in_second.0 in_first.1 in_second.1
