-- The members of each class see all of the ring: each triangle has one of them as a corner, and sees itself.
use Rattle.std.proofs.Common.{◌≡◌, inl, inr, refl, sym, subst, ℕ, ◌<◌, List, length}
use Rattle.std.specs.List.{Contains}
use Rattle.plane.proofs.Points.{whole_is_point}
use Rattle.plane.proofs.Segments.{on_first_end}
use Rattle.plane.specs.Point.{IsPoint, Triple, whole}
use Rattle.rings.specs.Inside.{IsIn}
use Rattle.rings.specs.Ring.{vertex}
use Rattle.rings.specs.Sees.{Sees}
use Rattle.meshes.proofs.Parts.{opposite}
use Rattle.meshes.proofs.Sides.{ends_below, piece_points_all}
use Rattle.meshes.proofs.Sight.{sees_in_triangle}
use Rattle.meshes.specs.Fits.{Fits, IsInTri}
use Rattle.meshes.specs.Side.{HasSide, tri_at}
use Rattle.meshes.specs.declared.tri.Tri.{Tri}
use Rattle.ring_check.specs.Oriented.{Oriented, given_index, given_of}
use Rattle.guards3.proofs.OneGuards.{corner_of_class, member_of_vertex}
use Rattle.guards3.proofs.GivenNumbers.{given_vertex, in_ring, sees_given}
use Rattle.guards3.specs.Guards.{IsParting, SeeAll, class_of, members}

module _ (ring : Oriented) (tris : List Tri) (fits : Fits ring.corners tris) (classes : List ℕ)
    (parting : IsParting (length ring.corners) tris classes) (class : ℕ) (of_three : class < 3) where
  module _ (x : Triple) (at_x : IsPoint x) (k : ℕ) (k_below : k < length tris) (in_k : IsInTri ring.corners (tri_at tris k) x) where
    -- a point of a triangle is seen from a corner, where a side begins, that is in the class
    seen_from : (i j : ℕ) → HasSide (tri_at tris k) i j → class_of classes i ≡ class
        → (g : ℕ) × Contains (members ring classes class) g × Sees (given_of ring) (whole (vertex (given_of ring) g)) x
    seen_from i j side has =
        let v = whole (vertex ring.corners i) in
        let at_v = whole_is_point (vertex ring.corners i) in
        let below = (ends_below ring.corners tris fits k i j k_below side).0 in
        let (across, is) = opposite ring.corners (tri_at tris k) (fits.triangles k k_below).counterclockwise i j side in
        let in_tri = is.side v at_v (on_first_end v (whole (vertex ring.corners j))) in
        let sees = sees_in_triangle ring.corners tris fits k k_below v x at_v at_x in_tri in_k in (
          given_index ring i,
          member_of_vertex ring classes class i below has,
          subst (λ p. Sees (given_of ring) (whole p) x) (sym (given_vertex ring i below)) (sees_given ring v x sees),
        )

    -- so from one of its corners
    seen_in : (g : ℕ) × Contains (members ring classes class) g × Sees (given_of ring) (whole (vertex (given_of ring) g)) x
    seen_in = elim (corner_of_class ring tris fits classes parting k class k_below of_three) [
      | inl a ↦ seen_from _ _ (inl (refl, refl)) a
      | inr (inl b) ↦ seen_from _ _ (inr (inl (refl, refl))) b
      | inr (inr c) ↦ seen_from _ _ (inr (inr (refl, refl))) c
    ]

  -- so they see all
  pub see_all : SeeAll (given_of ring) (members ring classes class)
  see_all x at_x inside =
      let covered = (subst (λ points. IsIn points x) (sym (piece_points_all ring.corners)) (in_ring ring x inside)) in
      let (k, below, in_k) = (fits.covers x at_x).0 covered in
      seen_in x at_x k below in_k
