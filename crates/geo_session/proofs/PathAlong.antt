-- The ends of a path along a sleeve, and the sleeve between the triangles of two points.
use Rattle.std.proofs.Common.{◌-◌, ℕ, refl, List, length, slice_index_or}
use Rattle.plane.specs.Point.{Point, whole}
use Rattle.rings.specs.Chain.{IsPath, IsTaut, point_at}
use Rattle.meshes.specs.Fits.{IsInTri}
use Rattle.meshes.specs.Side.{IsWalkBetween, tri_at}
use Rattle.meshes.specs.Sleeve.{IsOneOf, Sleeve}
use Rattle.meshes.specs.declared.tri.Tri.{Tri}
use Rattle.dual_tree.specs.Location.{IsLeastHolding}
use Rattle.geo_session.specs.Sleeves.{IsPathAlong, Leads}

module _ (corners : List Point) (tris : List Tri) (sleeve : Sleeve) where
  -- the sleeve between the triangles of two points leads from one to the other
  pub leads : (from to : ℕ) (s t : Point) → IsOneOf tris sleeve → IsWalkBetween tris from to sleeve.walk → IsLeastHolding corners tris (whole s) from
      → IsLeastHolding corners tris (whole t) to → Leads corners tris sleeve s t
  leads from to s t of_mesh between start goal = record {
    of_mesh = of_mesh;
    start = rw between.first start.holds;
    goal = rw between.last goal.holds;
  }

  module _ (chain : List Point) (along : IsPathAlong corners tris sleeve chain) where
    -- a path is taut,
    taut : IsTaut corners along.s along.t chain
    taut = (along.is_path chain).1 refl

    -- so it is the one between its own ends,
    pub own_path : IsPath corners (point_at chain 0) (point_at chain (length chain - 1)) chain
    own_path = rw (taut.first, taut.last) along.is_path

    -- which the first and the last triangle hold
    pub start_held : IsInTri corners (tri_at tris (slice_index_or sleeve.walk 0 0)) (whole (point_at chain 0))
    start_held = rw taut.first along.leads.start

    pub goal_held : IsInTri corners (tri_at tris (slice_index_or sleeve.walk (length sleeve.walk - 1) 0)) (whole (point_at chain (length chain - 1)))
    goal_held = rw taut.last along.leads.goal
