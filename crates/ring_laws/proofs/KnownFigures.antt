-- Figures that anyone can draw, so that a wrong definition does not check.
use Rattle.std.proofs.Common.{◌≡◌, inl, inr, refl, ℕ, zero, suc, ℤ, pos, negsuc, ◌≤ℤ◌, List, [], ◌∷◌, arith}
use Rattle.std.proofs.lemmas.Int.{ints}
use Rattle.std.specs.Int.Signed.{lt_z_yes}
use Rattle.plane.proofs.Points.{whole_is_point}
use Rattle.plane.proofs.Segments.{on_is_straight, middle, middle_is_point, middle_on}
use Rattle.plane.specs.Prelude.{height_over, IsStraight, On, Point, Triple, whole}
use Rattle.rings.proofs.Simple.{apart_of_simple}
use Rattle.rings.specs.Prelude.{doubled_area, edges_of, IsIn, IsOnSome, IsSimple, turned_round, vertex, winding}
use Rattle.rings.specs.Winding.{IsLeastVertex, RunsCounterclockwise}
use Rattle.ring_laws.proofs.Diagonals.{cut_is_diagonal_at}
use Rattle.ring_laws.proofs.Simple.{triangle_law}
use Rattle.ring_laws.specs.CutRule.{IsFarthestInCorner, IsInCorner, IsLeftCorner, to_farthest}
use Rattle.ring_laws.specs.Diagonal.{IsDiagonal}
use Rattle.ring_laws.specs.Pieces.{first_piece, second_piece}

-- the point at x and y
abbrev point : ℤ → ℤ → Point
point x y = record { x = x; y = y }

-- ---- a triangle, counterclockwise from its least vertex

-- half of a square with sides of length 4
abbrev corners : List Point
corners = point (pos 0) (pos 0) ∷ point (pos 4) (pos 0) ∷ point (pos 0) (pos 4) ∷ []

-- it winds once round a point inside,
once_round : winding (edges_of corners) (whole (point (pos 1) (pos 1))) ≡ pos 1
once_round = refl

-- and not round one outside
not_outside : winding (edges_of corners) (whole (point (pos 3) (pos 3))) ≡ pos 0
not_outside = refl

-- the other way round it winds once backward,
once_backward : winding (edges_of (turned_round corners)) (whole (point (pos 1) (pos 1))) ≡ negsuc 0
once_backward = refl

-- and has the opposite area
area_backward : doubled_area (turned_round corners) ≡ negsuc 15
area_backward = refl

-- it runs counterclockwise,
runs : RunsCounterclockwise corners
runs = triangle_law (point (pos 0) (pos 0)) (point (pos 4) (pos 0)) (point (pos 0) (pos 4)) (lt_z_yes tt)

-- and the other way round it does not
runs_not_backward : ¬ RunsCounterclockwise (turned_round corners)
runs_not_backward h = let k = h.area in omega (arith, ints)

-- its first vertex is the least,
first_is_least : IsLeastVertex corners 0
first_is_least zero within (inl h) = omega (arith, ints)
first_is_least zero within (inr h) = let k = h.1 in omega (arith, ints)
first_is_least (suc zero) within (inl h) = omega (arith, ints)
first_is_least (suc zero) within (inr h) = let k = h.0 in omega (arith, ints)
first_is_least (suc (suc zero)) within (inl h) = omega (arith, ints)
first_is_least (suc (suc zero)) within (inr h) = let k = h.1 in omega (arith, ints)
first_is_least (suc (suc (suc j))) within h = omega arith

-- and the third is not
third_not_least : ¬ IsLeastVertex corners 2
third_not_least least = least 0 (omega arith) (inr (refl, lt_z_yes tt))

-- ---- an L, counterclockwise from its least vertex

-- two arms of length 2 and width 1
abbrev letter : List Point
letter =
    point (pos 0) (pos 0) ∷ point (pos 2) (pos 0) ∷ point (pos 2) (pos 1) ∷ point (pos 1) (pos 1) ∷ point (pos 1) (pos 2)
    ∷ point (pos 0) (pos 2) ∷ []

-- the corner at the least vertex is between the last vertex and the second,
corner_of_letter : IsLeftCorner letter 0 (point (pos 0) (pos 2)) (point (pos 2) (pos 0))
corner_of_letter = record { neighbours = inl (refl, refl); left = lt_z_yes tt }

-- and the reflex vertex is in its triangle, on the third side
reflex_in_corner : IsInCorner letter 0 (point (pos 0) (pos 2)) (point (pos 2) (pos 0)) 3
reflex_in_corner = record {
  in_ring = omega arith;
  in_triangle = record {
    not_right_of_first = λ h. omega (arith, ints);
    not_right_of_second = λ h. omega (arith, ints);
    not_right_of_third = λ h. omega (arith, ints);
  };
  not_first = λ e. let x : pos 1 ≡ pos 0 = λ i. (e i).x in omega (arith, ints);
  not_middle = λ e. let x : pos 1 ≡ pos 0 = λ i. (e i).x in omega (arith, ints);
  not_last = λ e. let x : pos 1 ≡ pos 2 = λ i. (e i).x in omega (arith, ints);
}

-- it is the only one there, so it is the farthest
reflex_is_farthest : IsFarthestInCorner letter 0 (point (pos 0) (pos 2)) (point (pos 2) (pos 0)) 3
reflex_is_farthest = record { in_corner = reflex_in_corner; farthest = only }
  where
    only : (j : ℕ) → IsInCorner letter 0 (point (pos 0) (pos 2)) (point (pos 2) (pos 0)) j
        → height_over (point (pos 0) (pos 2)) (point (pos 2) (pos 0)) (whole (vertex letter j)) ≤ℤ pos 0
    only zero h = absurd (h.not_middle refl)
    only (suc zero) h = absurd (h.not_last refl)
    only (suc (suc zero)) h = absurd (h.in_triangle.not_right_of_third (lt_z_yes tt))
    only (suc (suc (suc zero))) h = omega (arith, ints)
    only (suc (suc (suc (suc zero)))) h = absurd (h.in_triangle.not_right_of_third (lt_z_yes tt))
    only (suc (suc (suc (suc (suc zero))))) h = absurd (h.not_first refl)
    only (suc (suc (suc (suc (suc (suc j)))))) h = let k = h.in_ring in absurd (omega arith)

-- the first vertex is the least,
letter_from_least : IsLeastVertex letter 0
letter_from_least zero within h = elim h [ inl k ↦ omega (arith, ints) | inr k ↦ let y = k.1 in omega (arith, ints) ]
letter_from_least (suc zero) within h = elim h [ inl k ↦ omega (arith, ints) | inr k ↦ let x = k.0 in omega (arith, ints) ]
letter_from_least (suc (suc zero)) within h = elim h [ inl k ↦ omega (arith, ints) | inr k ↦ let x = k.0 in omega (arith, ints) ]
letter_from_least (suc (suc (suc zero))) within h = elim h [ inl k ↦ omega (arith, ints) | inr k ↦ let x = k.0 in omega (arith, ints) ]
letter_from_least (suc (suc (suc (suc zero)))) within h = elim h [ inl k ↦ omega (arith, ints) | inr k ↦ let x = k.0 in omega (arith, ints) ]
letter_from_least (suc (suc (suc (suc (suc zero))))) within h = elim h [ inl k ↦ omega (arith, ints) | inr k ↦ let y = k.1 in omega (arith, ints) ]
letter_from_least (suc (suc (suc (suc (suc (suc j)))))) within h = omega arith

-- so the cut from it goes to the reflex vertex, and is a diagonal
letter_cut : IsSimple letter → IsDiagonal letter (point (pos 0) (pos 0)) (point (pos 1) (pos 1))
letter_cut simple =
    cut_is_diagonal_at letter (omega arith) (apart_of_simple letter simple) 0 (omega arith) letter_from_least _ _
    (to_farthest _ _ 3 corner_of_letter reflex_is_farthest refl refl)

-- it makes two quadrilaterals: the lower
lower_piece : first_piece letter 0 3 ≡ point (pos 0) (pos 0) ∷ point (pos 2) (pos 0) ∷ point (pos 2) (pos 1) ∷ point (pos 1) (pos 1) ∷ []
lower_piece = refl

-- and the upper
upper_piece : second_piece letter 0 3 ≡ point (pos 1) (pos 1) ∷ point (pos 1) (pos 2) ∷ point (pos 0) (pos 2) ∷ point (pos 0) (pos 0) ∷ []
upper_piece = refl

-- the middle between the two ends of its arms
abbrev notch : Triple
notch = middle (point (pos 2) (pos 1)) (point (pos 1) (pos 2))

-- is not straight with an edge,
not_on : (a b : Point) → ¬ IsStraight (whole a) (whole b) notch → ¬ On notch (whole a) (whole b)
not_on a b turns on = turns (on_is_straight notch (whole a) (whole b) (omega (arith, ints)) (whole_is_point a) (whole_is_point b) on)

-- so it is on none,
off_letter : ¬ IsOnSome (edges_of letter) notch
off_letter (inl on) = not_on (point (pos 0) (pos 0)) (point (pos 2) (pos 0)) (λ e. omega (arith, ints)) on
off_letter (inr (inl on)) = not_on (point (pos 2) (pos 0)) (point (pos 2) (pos 1)) (λ e. omega (arith, ints)) on
off_letter (inr (inr (inl on))) = not_on (point (pos 2) (pos 1)) (point (pos 1) (pos 1)) (λ e. omega (arith, ints)) on
off_letter (inr (inr (inr (inl on)))) = not_on (point (pos 1) (pos 1)) (point (pos 1) (pos 2)) (λ e. omega (arith, ints)) on
off_letter (inr (inr (inr (inr (inl on))))) = not_on (point (pos 1) (pos 2)) (point (pos 0) (pos 2)) (λ e. omega (arith, ints)) on
off_letter (inr (inr (inr (inr (inr (inl on)))))) = not_on (point (pos 0) (pos 2)) (point (pos 0) (pos 0)) (λ e. omega (arith, ints)) on
off_letter (inr (inr (inr (inr (inr (inr none)))))) = none

-- and is not in the L,
not_in_letter : ¬ IsIn letter notch
not_in_letter (inl on) = off_letter on
not_in_letter (inr odd) = omega (arith, odd)

-- so the two ends have no diagonal between them
no_diagonal : ¬ IsDiagonal letter (point (pos 2) (pos 1)) (point (pos 1) (pos 2))
no_diagonal d =
    not_in_letter (d.inside notch (middle_is_point (point (pos 2) (pos 1)) (point (pos 1) (pos 2)))
    (middle_on (point (pos 2) (pos 1)) (point (pos 1) (pos 2))))
