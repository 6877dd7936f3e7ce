use Rattle.std.proofs.Common.{◌≡◌, ◌≤◌, ◌++◌, length}
use Rattle.std.specs.Prelude.{take, drop}
use Rattle.geo_c.specs.Fractions.{fractions_of_corners}
use Rattle.geo_c.proofs.fractions.fill_corners.Given as goal

-- the fractions so far stand before what was there
abbrev pub invariant-fractions : goal.invariant-fractions
invariant-fractions g l = record {
  few : l.i ≤ length (fractions_of_corners l.corners);
  filled : l.out ≡ take l.i (fractions_of_corners l.corners) ++ drop l.i l.fn.out;
}
