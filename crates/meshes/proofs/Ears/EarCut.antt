-- A piece without the tip of an ear: the triangles other than the ear lie in it, and none of them has the tip.
use Rattle.std.proofs.Common.{◌≡◌, inl, inr, sym, ℕ, ◌<◌, List, [], ◌∷◌, length, arith}
use Rattle.plane.proofs.Nearness.{toward, toward_is_point}
use Rattle.plane.proofs.Points.{whole_is_point}
use Rattle.plane.proofs.Segments.{on_reversed}
use Rattle.plane.specs.Prelude.{IsLeft, IsPoint, Point, Triple, whole}
use Rattle.rings.specs.Prelude.{IsIn, vertex}
use Rattle.ring_laws.proofs.Cuts.{cut_from_first}
use Rattle.ring_laws.proofs.Diagonals.{diagonal_backward}
use Rattle.ring_laws.proofs.Triangles.{in_of_in_triangle, in_triangle_of_in, middle_in_triangle}
use Rattle.ring_laws.specs.Pieces.{IsCutInTwo}
use Rattle.meshes.proofs.Joins.{in_tri}
use Rattle.meshes.proofs.Parts.{IsCovered, IsShared, ring_apart, shared_is_diagonal, shared_of, left_of_all_eventually, mean, mean_inside, paved}
use Rattle.meshes.proofs.Parts.{mean_is_point, sides, toward_inside, end_of_side, side_numbers, LiesIn, inside_one, inside_sides, left_of_sides}
use Rattle.meshes.proofs.Parts.{lies_in_one}
use Rattle.meshes.proofs.TreeLeaves.{closed_by_sides, turns_left}
use Rattle.meshes.proofs.Walks.{IsPlace}
use Rattle.meshes.specs.Prelude.{FitsPiece, IsInTri, piece_points, tri_at}
use Rattle.meshes.specs.declared.tri.Tri.{Tri}
use Rattle.meshes.specs.Laws.{IsEar}

module _ (corners : List Point) (u v w : ℕ) (ms : List ℕ) (tris : List Tri) (fits : FitsPiece corners (u ∷ v ∷ w ∷ ms) tris)
    (k l : ℕ) (ear : IsEar (u ∷ v ∷ w ∷ ms) tris k l u v w) where
  -- the piece, the ear, and the rest of the piece
  abbrev piece : List ℕ
  piece = u ∷ v ∷ w ∷ ms

  abbrev ear_ring : List Point
  ear_ring = piece_points corners (u ∷ v ∷ w ∷ [])

  abbrev pub rest_ring : List Point
  rest_ring = piece_points corners (u ∷ w ∷ ms)

  -- the base is a side of two triangles,
  base_shared : IsShared corners piece tris (IsPlace tris) w u k l
  base_shared = shared_of corners piece tris (paved fits) w u k l ear.base ear.base.in_list ear.base.other_in_list

  -- the ear turns left,
  pub ear_left : IsLeft (whole (vertex corners u)) (whole (vertex corners v)) (whole (vertex corners w))
  ear_left =
      turns_left corners (tri_at tris k) (fits.triangles k ear.base.in_list).counterclockwise u v w ear.first_side ear.second_side

  -- and the base cuts it off
  pub ear_cut : IsCutInTwo (piece_points corners piece) ear_ring rest_ring (vertex corners u) (vertex corners w)
  ear_cut =
      cut_from_first (vertex corners u) (vertex corners v ∷ []) (vertex corners w) (piece_points corners ms)
      (ring_apart corners piece tris (paved fits))
      (diagonal_backward (vertex corners w) (vertex corners u) (piece_points corners piece)
      (shared_is_diagonal corners piece tris (paved fits) w u k l base_shared))

  ear_covered : IsCovered (piece_points corners piece) ear_ring rest_ring (whole (vertex corners w)) (whole (vertex corners u))
  ear_covered = record {
    covers = λ x at. (ear_cut.covers x at).0;
    common = λ x at h i. on_reversed x (whole (vertex corners u)) (whole (vertex corners w)) (ear_cut.common x at h i);
  }

  -- a point in the cut off part is in the ear
  in_ear : (x : Triple) → IsPoint x → IsIn ear_ring x → IsInTri corners (tri_at tris k) x
  in_ear x at_x h =
      closed_by_sides corners (tri_at tris k) (fits.triangles k ear.base.in_list).counterclockwise u v w ear.first_side ear.second_side x
      (in_triangle_of_in (vertex corners u) (vertex corners v) (vertex corners w) ear_left x at_x h)

  -- no other triangle lies in it
  not_in_ear : (n : ℕ) → n < length tris → ¬ (n ≡ k) → ¬ LiesIn corners tris ear_ring n
  not_in_ear n within other lies =
      let t = tri_at tris n in
      let left = (fits.triangles n within).counterclockwise in
      let left_k = (fits.triangles k ear.base.in_list).counterclockwise in
      let x = mean corners t in
      let at_x = mean_is_point corners t left in
      let inside = mean_inside corners t left in
      let g = mean corners (tri_at tris k) in
      let at_g = mean_is_point corners (tri_at tris k) left_k in
      let in_k = in_ear x at_x (lies x at_x (in_tri corners t x inside)) in
      let near = left_of_all_eventually x g (sides corners t) (left_of_sides corners t x inside) in
      let m : ℕ = near.start in
      inside_one corners piece tris (paved fits) n k within ear.base.in_list other (toward x g m) (toward_is_point x g at_x at_g m)
      (inside_sides corners t (toward x g m) (near.from_start m (omega arith)))
      (toward_inside corners (tri_at tris k) left_k x g in_k (mean_inside corners (tri_at tris k) left_k) m)

  -- so all lie in the rest
  pub others_lie : (n : ℕ) → n < length tris → ¬ (n ≡ k) → LiesIn corners tris rest_ring n
  others_lie n within other =
      elim (lies_in_one corners piece tris (paved fits) w u k l base_shared ear_ring rest_ring ear_covered n within) [
        | inl h ↦ absurd (not_in_ear n within other h)
        | inr h ↦ h
      ]

  -- the corners of the ear are different
  tip_differs : (¬ (v ≡ w)) × (¬ (v ≡ u))
  tip_differs =
      let first = side_numbers corners piece tris (paved fits) k u v ear.base.in_list (inl ear.first_side) in
      let second = side_numbers corners piece tris (paved fits) k v w ear.base.in_list (inl ear.second_side) in
      (second.2, λ e. first.2 (sym e))

  -- the tip is in no other triangle
  pub tip_off : (n : ℕ) → n < length tris → ¬ (n ≡ k) → ¬ IsInTri corners (tri_at tris n) (whole (vertex corners v))
  tip_off n within other h =
      let V = whole (vertex corners v) in
      let at_v = whole_is_point (vertex corners v) in
      let in_first = in_of_in_triangle (vertex corners u) (vertex corners v) (vertex corners w) ear_left V at_v
      (middle_in_triangle (vertex corners u) (vertex corners v) (vertex corners w) ear_left) in
      let contained = (side_numbers corners piece tris (paved fits) k u v ear.base.in_list (inl ear.first_side)).1 in
      elim (end_of_side corners piece tris (paved fits) w u k l base_shared ear_ring rest_ring ear_covered v contained
      (ear_covered.common V at_v in_first (others_lie n within other V at_v h))) [
        | inl e ↦ tip_differs.0 e
        | inr e ↦ tip_differs.1 e
      ]
