-- Points outside the upright box round three others. This project's own. No public clause cites this module.
use Rattle.std.specs.Prelude.{◌⊎◌, ℤ, ◌<ℤ◌}
use Rattle.plane.specs.Point.{Point}

-- z is below a, b and c, or above them
abbrev pub IsOutside : (z a b c : ℤ) → Type 0
IsOutside z a b c = (z <ℤ a × z <ℤ b × z <ℤ c) ⊎ (a <ℤ z × b <ℤ z × c <ℤ z)

-- so is a coordinate of the point p
abbrev pub IsOutsideBox : (p a b c : Point) → Type 0
IsOutsideBox p a b c = IsOutside p.x a.x b.x c.x ⊎ IsOutside p.y a.y b.y c.y
