-- The triangles at the places of an order outward from a start: how each is entered, and the funnel there. This project's own.
use Rattle.std.specs.Prelude.{ℕ, ◌<◌, List, length}
use Rattle.plane.specs.Point.{Point, whole}
use Rattle.meshes.specs.Fits.{Fits, IsInTri}
use Rattle.meshes.specs.Mesh.{side_begin, side_end}
use Rattle.meshes.specs.Side.{tri_at}
use Rattle.meshes.specs.declared.tri.Tri.{Tri}
use Rattle.tri_mesh.specs.Outward.{IsOutward, at_place, outward_at}
use Rattle.tri_mesh.specs.declared.outward.Outward.{Outward}
use Rattle.path_tree.specs.Listed.{IsFunnelAt, Listed}
use Rattle.path_tree.specs.Third.{side_third}

-- the place of the triangle from which the one at a place is reached
abbrev pub toward : List Outward → ℕ → ℕ
toward order p = (outward_at order p).toward

-- the corners at the left and the right end of the side over which it is entered, and the third one
abbrev pub left_of : List Tri → List Outward → ℕ → ℕ
left_of tris order p = side_begin (tri_at tris (at_place order p)) (outward_at order p).side

abbrev pub right_of : List Tri → List Outward → ℕ → ℕ
right_of tris order p = side_end (tri_at tris (at_place order p)) (outward_at order p).side

abbrev pub third_of : List Tri → List Outward → ℕ → ℕ
third_of tris order p = side_third (tri_at tris (at_place order p)) (outward_at order p).side

-- the order goes outward from a triangle with the start in it
pub record IsFromStart (corners : List Point) (start : Point) (tris : List Tri) (order : List Outward) : Type 0 where
  pub fits : Fits corners tris
  pub some : 0 < length order
  pub outward : IsOutward tris (at_place order 0) order
  pub home : IsInTri corners (tri_at tris (at_place order 0)) (whole start)

-- the list is the funnel at the side over which the triangle at a place is entered
abbrev pub IsFunnelTo : List Point → Point → List Tri → List Outward → ℕ → Listed → Type 0
IsFunnelTo corners start tris order p f = IsFunnelAt corners start (left_of tris order p) (right_of tris order p) p f
