-- A vertex of the ring is in the triangles of a mesh that have it as a corner, and in no others.
use Rattle.std.proofs.Common.{inl, inr, subst, ℕ, ◌<◌, List, length}
use Rattle.std.specs.List.{Contains, range_with_len}
use Rattle.plane.specs.Point.{Point, whole}
use Rattle.rings.specs.Ring.{vertex}
use Rattle.meshes.specs.Fits.{Fits, IsInTri}
use Rattle.meshes.specs.Side.{HasCorner, tri_at}
use Rattle.meshes.specs.declared.tri.Tri.{Tri}
use Rattle.funnels.proofs.Corners.{corner_of}

module _ (corners : List Point) (tris : List Tri) (fits : Fits corners tris) (k v : ℕ) (in_list : k < length tris) where
  -- the corners of a triangle are vertices,
  pub corner_within : HasCorner (tri_at tris k) v → Contains (range_with_len 0 (length corners)) v
  corner_within (inl e) = subst (Contains (range_with_len 0 (length corners))) e (fits.triangles k in_list).has_a
  corner_within (inr (inl e)) = subst (Contains (range_with_len 0 (length corners))) e (fits.triangles k in_list).has_b
  corner_within (inr (inr e)) = subst (Contains (range_with_len 0 (length corners))) e (fits.triangles k in_list).has_c

  -- and it holds no other vertices
  pub held_corner : Contains (range_with_len 0 (length corners)) v → IsInTri corners (tri_at tris k) (whole (vertex corners v)) → HasCorner (tri_at tris k) v
  held_corner within held = corner_of corners (range_with_len 0 (length corners)) tris fits k v in_list within held
