-- Figures that anyone can draw, so that a wrong definition does not check.
use Rattle.std.proofs.Common.{◌≡◌, refl, ℤ, pos, negsuc, List, [], ◌∷◌}
use Rattle.std.specs.Int.Signed.{lt_z_yes}
use Rattle.plane.specs.Point.{Point, Triple}
use Rattle.rings.proofs.Vertices.{backward, edge_at}
use Rattle.rings.specs.Across.{CrossesRight}
use Rattle.rings.specs.Prelude.{crossings, edges_of, winding}

-- a square with sides of length 2, counterclockwise
abbrev square : List Point
square =
    record { x = pos 0; y = pos 0 } ∷ record { x = pos 2; y = pos 0 } ∷ record { x = pos 2; y = pos 2 }
    ∷ record { x = pos 0; y = pos 2 } ∷ []

abbrev at : ℤ → ℤ → ℤ → Triple
at x y w = record { X = x; Y = y; W = w }

-- it winds once round its middle
once_round : winding (edges_of square) (at (pos 1) (pos 1) (pos 1)) ≡ pos 1
once_round = refl

-- once backward where it is read backward
once_backward : winding (backward (edges_of square)) (at (pos 1) (pos 1) (pos 1)) ≡ negsuc 0
once_backward = refl

-- from the left of it two edges are crossed, in two directions
two_crossed : crossings (edges_of square) (at (negsuc 0) (pos 3) (pos 2)) ≡ 2
two_crossed = refl

-- so it does not wind round there
not_round : winding (edges_of square) (at (negsuc 0) (pos 3) (pos 2)) ≡ pos 0
not_round = refl

-- at the height of the lowest side, the edge that begins there is crossed, and the side not
lowest_height : crossings (edges_of square) (at (pos 1) (pos 0) (pos 1)) ≡ 1
lowest_height = refl

-- at the height of the highest side none is
highest_height : crossings (edges_of square) (at (pos 1) (pos 2) (pos 1)) ≡ 0
highest_height = refl

-- from the middle to a third beyond the right side, that side is crossed from left to right
out_of_square : CrossesRight (at (pos 1) (pos 1) (pos 1)) (at (pos 7) (pos 3) (pos 3)) (edge_at square 1)
out_of_square = record { starts_left = lt_z_yes tt; ends_right = lt_z_yes tt; from_right = lt_z_yes tt; to_left = lt_z_yes tt }
