-- How a rational number compares with whole numbers, and a rational point with vertices. This project's own. No public clause
-- cites this module.
use Rattle.std.specs.Prelude.{◌↔◌, ℤ, ◌*ℤ◌, ◌<ℤ◌}
use Rattle.plane.specs.Point.{IsInLimit, Triple}
use Rattle.inside_test.specs.declared.level.Level.{Level}
use Rattle.inside_test.specs.declared.level.Levels.{Levels}

-- part / weight is below a coordinate where the floor is, and above it where the ceiling is
pub record IsLevel (level : Level) (part weight : ℤ) : Type 0 where
  pub below : (z : ℤ) → IsInLimit z → (level.floor <ℤ z) ↔ (part <ℤ (z *ℤ weight))
  pub above : (z : ℤ) → IsInLimit z → (z <ℤ level.ceiling) ↔ ((z *ℤ weight) <ℤ part)

-- the levels are those of the point p
pub record AreLevels (levels : Levels) (p : Triple) : Type 0 where
  pub across : IsLevel levels.across p.X p.W
  pub height : IsLevel levels.height p.Y p.W
