-- How many diagonals a sleeve in the triangles of a ring has.
use Rattle.std.proofs.Common.{◌+◌, ◌≤◌, List, length, arith}
use Rattle.plane.specs.Point.{Point}
use Rattle.meshes.proofs.Sides.{two_fewer}
use Rattle.meshes.specs.Fits.{Fits}
use Rattle.meshes.specs.Sleeve.{IsOneOf, Sleeve}
use Rattle.meshes.specs.declared.tri.Tri.{Tri}
use Rattle.plane.proofs.Lists.{few_numbers}

-- it has fewer than the ring has vertices, by 3 or more: no triangle is twice in its walk
pub sleeve_few : (corners : List Point) (tris : List Tri) (sleeve : Sleeve) → Fits corners tris → IsOneOf tris sleeve
    → length sleeve.diagonals + 3 ≤ length corners
sleeve_few corners tris sleeve fits of_mesh =
    omega (arith, few_numbers sleeve.walk (length tris) of_mesh.walk.in_list of_mesh.walk.once, of_mesh.count, two_fewer corners tris fits)
