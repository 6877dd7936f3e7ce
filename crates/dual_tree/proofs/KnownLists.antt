-- Small lists without the points at which the way goes straight on, as worked by hand.
use Rattle.std.proofs.Common.{◌≡◌, refl, ℕ, pos, [], ◌∷◌}
use Rattle.plane.specs.Point.{Point}
use Rattle.dual_tree.specs.Straight.{without_straight}

abbrev at : ℕ → ℕ → Point
at x y = record { x = pos x; y = pos y }

-- one point, and two
one_stays : without_straight (at 1 2 ∷ []) ≡ at 1 2 ∷ []
one_stays = refl

two_stay : without_straight (at 1 2 ∷ at 3 2 ∷ []) ≡ at 1 2 ∷ at 3 2 ∷ []
two_stay = refl

-- a way with two points before a turn to the left, one between that and a turn to the right, and one after
bends_stay : without_straight (at 0 0 ∷ at 1 0 ∷ at 3 0 ∷ at 4 0 ∷ at 4 1 ∷ at 4 3 ∷ at 6 3 ∷ at 8 3 ∷ [])
    ≡ at 0 0 ∷ at 4 0 ∷ at 4 3 ∷ at 8 3 ∷ []
bends_stay = refl
