-- The closed cone between two rays that turn, on the side where it is smaller than a half turn. Lee and Preparata 1984.
use Rattle.std.specs.Prelude.{◌⊎◌}
use Rattle.plane.specs.Point.{Triple}
use Rattle.plane.specs.Turn.{IsLeft, IsRight}

-- u is in the cone at v between the rays to a and to c: where c is left of the ray to a, u is not right of it, and c is
-- not right of the ray to u; the same with left and right exchanged
abbrev pub IsInCone : (v a c u : Triple) → Type 0
IsInCone v a c u =
    (IsLeft v a c × (¬ IsRight v a u) × (¬ IsRight v u c))
    ⊎ (IsRight v a c × (¬ IsLeft v a u) × (¬ IsLeft v u c))
