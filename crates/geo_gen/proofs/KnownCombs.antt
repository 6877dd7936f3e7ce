-- Combs that anyone can draw, so that a wrong definition does not check.
use Rattle.std.proofs.Common.{◌≡◌, refl, pos, [], ◌∷◌, length}
use Rattle.rings.specs.Orientation.{doubled_area}
use Rattle.geo_gen.specs.Comb.{comb_goal, comb_list, comb_start}

-- one tooth is a slanted strip
one_tooth : comb_list 1
    ≡ record { x = pos 0; y = pos 0 } ∷ record { x = pos 4; y = pos 6 } ∷ record { x = pos 4; y = pos 8 }
    ∷ record { x = pos 0; y = pos 2 } ∷ []
one_tooth = refl

-- three go up, down and up
three_teeth : comb_list 3
    ≡ record { x = pos 0; y = pos 0 } ∷ record { x = pos 4; y = pos 6 } ∷ record { x = pos 8; y = pos 0 }
    ∷ record { x = pos 12; y = pos 6 } ∷ record { x = pos 12; y = pos 8 } ∷ record { x = pos 8; y = pos 2 }
    ∷ record { x = pos 4; y = pos 8 } ∷ record { x = pos 0; y = pos 2 } ∷ []
three_teeth = refl

-- the path goes from the middle of the left end
start_is : comb_start ≡ record { x = pos 0; y = pos 1 }
start_is = refl

-- to the middle of the right end, which is high or low
goal_is_high : comb_goal 3 ≡ record { x = pos 12; y = pos 7 }
goal_is_high = refl

goal_is_low : comb_goal 4 ≡ record { x = pos 16; y = pos 1 }
goal_is_low = refl

-- each tooth has the area 8, and three run counterclockwise
area_of_three : doubled_area (comb_list 3) ≡ pos 48
area_of_three = refl

-- ten teeth have 22 vertices
ten_teeth : length (comb_list 10) ≡ 22
ten_teeth = refl
