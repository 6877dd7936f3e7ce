-- What the search for the triangle of a point says of the list that the ring was made of.
use Rattle.std.proofs.Common.{◌<◌, ◌↔◌, ℕ, List, length, subst}
use Rattle.plane.proofs.Points.{whole_is_point}
use Rattle.plane.specs.Point.{Point, whole}
use Rattle.rings.specs.Inside.{IsIn}
use Rattle.meshes.proofs.Sides.{piece_points_all}
use Rattle.meshes.specs.Fits.{Fits, IsInTri}
use Rattle.meshes.specs.Side.{tri_at}
use Rattle.meshes.specs.declared.tri.Tri.{Tri}
use Rattle.ring_check.specs.Oriented.{Oriented, given_of}
use Rattle.dual_tree.specs.Location.{IsLeastHolding}
use Rattle.geo_session.proofs.GivenPath.{in_given_iff}

-- a point that a triangle holds is in the ring
pub held_in : (corners : List Point) (p : Point) (tris : List Tri) (k : ℕ) → Fits corners tris → IsLeastHolding corners tris (whole p) k
    → IsIn corners (whole p)
held_in corners p tris k fits holding =
    let covered = subst (λ points. IsIn points (whole p) ↔ ((l : ℕ) × (l < length tris) × IsInTri corners (tri_at tris l) (whole p)))
    (piece_points_all corners) (fits.covers (whole p) (whole_is_point p)) in
    covered.1 (k, holding.in_list, holding.holds)

module _ (ring : Oriented) (p : Point) where
  -- so it is in the list
  pub held_in_given : (tris : List Tri) (k : ℕ) → Fits ring.corners tris → IsLeastHolding ring.corners tris (whole p) k
      → IsIn (given_of ring) (whole p)
  held_in_given tris k fits holding = (in_given_iff ring (whole p)).1 (held_in ring.corners p tris k fits holding)

  -- and one that is not in the ring is not in it
  pub out_of_given : ¬ IsIn ring.corners (whole p) → ¬ IsIn (given_of ring) (whole p)
  out_of_given out within = out ((in_given_iff ring (whole p)).0 within)
