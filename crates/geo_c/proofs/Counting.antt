-- How many items a function makes of a list.
use Rattle.std.proofs.Common.{◌≡◌, ℕ, ◌*◌, List, [], ◌∷◌, length, refl, arith}
use Rattle.std.specs.Prelude.{flat_map}
use Rattle.plane.specs.Point.{Triple}
use Rattle.geo_reply.specs.declared.reply.Side.{Side}
use Rattle.geo_c.specs.Contents.{side_numbers, sight_numbers}
use Rattle.geo_c.specs.Fractions.{fraction_x, fraction_y, fractions_of_corners}
use Rattle.geo_c.proofs.Twos.{length_twos}

pub length_of_sides : (sides : List Side) → length (flat_map side_numbers sides) ≡ 3 * length sides
length_of_sides [] = refl
length_of_sides (side ∷ sides) = omega (arith, length_of_sides sides)

pub length_of_sights : (pairs : List (ℕ × ℕ)) → length (flat_map sight_numbers pairs) ≡ 2 * length pairs
length_of_sights [] = refl
length_of_sights (pair ∷ pairs) = omega (arith, length_of_sights pairs)

pub length_of_corners : (corners : List Triple) → length (fractions_of_corners corners) ≡ 2 * length corners
length_of_corners corners = length_twos fraction_x fraction_y corners
