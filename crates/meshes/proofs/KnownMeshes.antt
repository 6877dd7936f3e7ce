-- A list of triangles that anyone can draw.
use Rattle.std.proofs.Common.{pos, List, [], ◌∷◌}
use Rattle.std.specs.Int.Signed.{lt_z_yes}
use Rattle.plane.specs.Point.{Point}
use Rattle.meshes.proofs.Sides.{fits_triangle}
use Rattle.meshes.specs.Prelude.{IsMesh}
use Rattle.meshes.specs.declared.tri.Tri.{Tri}

-- a triangle alone, with corners (0, 0), (1, 0) and (0, 1)
abbrev pub one : List Tri
one = record { a = 0; b = 1; c = 2 } ∷ []

pub one_is_mesh : IsMesh one
one_is_mesh =
    let corners : List Point = record { x = pos 0; y = pos 0 } ∷ record { x = pos 1; y = pos 0 } ∷ record { x = pos 0; y = pos 1 } ∷ [] in
    (corners, fits_triangle corners 0 1 2 (lt_z_yes tt))
