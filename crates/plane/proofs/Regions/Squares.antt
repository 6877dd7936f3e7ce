-- The square of the limit, by its corners.
use Rattle.std.proofs.Common.{ℕ, zero, suc, ◌+◌, ◌-◌, ◌<◌, arith, List, [], ◌∷◌, ℤ, pos, negsuc}
use Rattle.std.proofs.lemmas.Int.{ints}
use Rattle.plane.proofs.Regions.Corners.{corners_of_convex}
use Rattle.plane.proofs.Regions.Sides.{IsInSides, IsNotRight, region_of_sides, sides_of_region}
use Rattle.plane.specs.Convex.{AreConvex, corner}
use Rattle.plane.specs.Prelude.{IsLeft, IsPoint, Precedes, Triple, whole}
use Rattle.plane.specs.Region.{IsCornerList}
use Rattle.plane.specs.Square.{IsInSquare}
use Rattle.plane.specs.declared.limits.TheConstants.{MAX_COORDINATE}

-- the limit to the right and upward, and to the left and downward
abbrev far : ℤ
far = pos MAX_COORDINATE

abbrev back : ℤ
back = negsuc (MAX_COORDINATE - 1)

-- the corners, from the lower left one on
abbrev pub square : List Triple
square = whole (record { x = back; y = back }) ∷ whole (record { x = far; y = back }) ∷ whole (record { x = far; y = far }) ∷ whole
    (record { x = back; y = far }) ∷ []

square_rational : (i : ℕ) → i < 4 → IsPoint (corner square i)
square_rational zero less = omega (arith, ints)
square_rational (suc zero) less = omega (arith, ints)
square_rational (suc (suc zero)) less = omega (arith, ints)
square_rational (suc (suc (suc zero))) less = omega (arith, ints)
square_rational (suc (suc (suc (suc i)))) less = absurd (omega (arith, less))

square_left : (i j l : ℕ) → i < j → j < l → l < 4 → IsLeft (corner square i) (corner square j) (corner square l)
square_left zero (suc zero) (suc (suc zero)) before after less = omega (arith, ints)
square_left zero (suc zero) (suc (suc (suc zero))) before after less = omega (arith, ints)
square_left zero (suc (suc zero)) (suc (suc (suc zero))) before after less = omega (arith, ints)
square_left (suc zero) (suc (suc zero)) (suc (suc (suc zero))) before after less = omega (arith, ints)
square_left i j l before after less = absurd (omega (arith, before, after, less))

square_least : (i : ℕ) → i < 4 → ¬ (Precedes (corner square i) (corner square 0))
square_least zero less before = grind (arith, ints)
square_least (suc zero) less before = grind (arith, ints)
square_least (suc (suc zero)) less before = grind (arith, ints)
square_least (suc (suc (suc zero))) less before = grind (arith, ints)
square_least (suc (suc (suc (suc i)))) less before = omega (arith, less)

-- the sides against a point
square_along : (p : Triple) → IsInSquare p → (i : ℕ) → i + 1 < 4 → IsNotRight (corner square i) (corner square (i + 1)) p
square_along p h zero less = let k = h.y_within.not_below in omega (arith, ints)
square_along p h (suc zero) less = let k = h.x_within.not_above in omega (arith, ints)
square_along p h (suc (suc zero)) less = let k = h.y_within.not_above in omega (arith, ints)
square_along p h (suc (suc (suc i))) less = absurd (omega (arith, less))

square_closing : (p : Triple) → IsInSquare p → IsNotRight (corner square 3) (corner square 0) p
square_closing p h = let k = h.x_within.not_below in omega (arith, ints)

-- and a point against the sides
inside_square : (p : Triple) → IsInSides square p → IsInSquare p
inside_square p sides =
    let south : IsNotRight (corner square 0) (corner square 1) p = sides.along 0 (omega arith) in
    let east : IsNotRight (corner square 1) (corner square 2) p = sides.along 1 (omega arith) in
    let north : IsNotRight (corner square 2) (corner square 3) p = sides.along 2 (omega arith) in
    let west : IsNotRight (corner square 3) (corner square 0) p = sides.closing in
    record {
      x_within = record { not_below = omega (arith, ints, west); not_above = omega (arith, ints, east) };
      y_within = record { not_below = omega (arith, ints, south); not_above = omega (arith, ints, north) };
    }

-- they are convex,
pub square_convex : AreConvex square
square_convex = record { rational = square_rational; left = square_left; different = λ two. absurd (omega (arith, two)) }

-- and are the corner list of the square
pub square_corners : IsCornerList IsInSquare square
square_corners = record {
  are_corners = corners_of_convex square square_convex square_least;
  exact = λ p at_p. (
    λ h. inside_square p (sides_of_region square p (omega arith) h),
    λ h. region_of_sides square p (omega arith) (record { along = square_along p h; closing = square_closing p h }),
  );
}
