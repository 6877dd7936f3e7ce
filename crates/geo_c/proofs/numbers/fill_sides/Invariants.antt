use Rattle.std.proofs.Common.{take}
use Rattle.std.specs.Prelude.{flat_map}
use Rattle.geo_c.specs.Contents.{side_numbers}
use Rattle.geo_c.specs.Put.{IsPut}
use Rattle.geo_c.proofs.numbers.fill_sides.Given as goal

abbrev pub invariant-loop-side : goal.invariant-loop-side
invariant-loop-side l = IsPut (flat_map side_numbers (take l.side-index l.sides)) l.fn.out l.out l.next
