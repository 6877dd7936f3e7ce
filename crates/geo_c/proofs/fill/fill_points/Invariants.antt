use Rattle.std.proofs.Common.{◌≡◌, ◌++◌}
use Rattle.std.specs.Prelude.{take, drop}
use Rattle.geo_c.proofs.fill.fill_points.Given as goal

-- the points so far stand before what was there
abbrev pub invariant-points : goal.invariant-points
invariant-points g l = (l.out ≡ take l.i l.fn.points ++ drop l.i l.fn.out)
