use Rattle.std.proofs.Common.{◌≡◌, ◌≤◌, ◌++◌, length}
use Rattle.std.specs.Prelude.{take, drop}
use Rattle.geo_c.specs.Fractions.{fractions_of_parts}
use Rattle.geo_c.proofs.fractions.fill_parts.Given as goal

-- the fractions so far stand before what was there
abbrev pub invariant-fractions : goal.invariant-fractions
invariant-fractions g l = record {
  few : l.i ≤ length (fractions_of_parts l.parts);
  filled : l.out ≡ take l.i (fractions_of_parts l.parts) ++ drop l.i l.fn.out;
}
