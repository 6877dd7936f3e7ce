-- Cones that anyone can narrow, so that a wrong definition does not check.
use Rattle.std.proofs.Common.{◌≡◌, refl, ℤ, pos, Some, None}
use Rattle.std.specs.Prelude.{Option}
use Rattle.plane.specs.Point.{Point}
use Rattle.meshes.specs.Cone.{Cone, narrowed}

abbrev at : ℤ → ℤ → Point
at x y = record { x = x; y = y }

abbrev cone : Point → Point → Option Cone
cone a b = Some (record { left = a; right = b })

-- from a point on the left of a side, that sees everything, the side leaves its ends
first_side : narrowed (at (pos 0) (pos 0)) (cone (at (pos 0) (pos 0)) (at (pos 0) (pos 0))) (at (pos 1) (pos 2)) (at (pos 1) (pos 1))
    ≡ cone (at (pos 1) (pos 2)) (at (pos 1) (pos 1))
first_side = refl

-- beyond the line of a side one of its ends is left, as one ray
beyond_side : narrowed (at (pos 0) (pos 0)) (cone (at (pos 1) (pos 2)) (at (pos 1) (pos 1))) (at (pos 2) (pos 0)) (at (pos 1) (pos 1))
    ≡ cone (at (pos 1) (pos 1)) (at (pos 1) (pos 1))
beyond_side = refl

-- the rays stay where they meet the side
within_side : narrowed (at (pos 0) (pos 0)) (cone (at (pos 1) (pos 2)) (at (pos 2) (pos 1))) (at (pos 0) (pos 5)) (at (pos 5) (pos 0))
    ≡ cone (at (pos 1) (pos 2)) (at (pos 2) (pos 1))
within_side = refl

-- a side on the left of the cone is not seen,
left_side : narrowed (at (pos 0) (pos 0)) (cone (at (pos 2) (pos 1)) (at (pos 2) (pos 0))) (at (pos 0) (pos 5)) (at (pos 1) (pos 5)) ≡ None
left_side = refl

-- nor is one on its right
right_side : narrowed (at (pos 0) (pos 0)) (cone (at (pos 0) (pos 1)) (at (pos 1) (pos 2))) (at (pos 5) (pos 1)) (at (pos 5) (pos 0)) ≡ None
right_side = refl
