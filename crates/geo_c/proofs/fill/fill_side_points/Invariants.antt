use Rattle.std.proofs.Common.{take}
use Rattle.std.specs.Prelude.{flat_map}
use Rattle.geo_c.specs.Contents.{side_points}
use Rattle.geo_c.specs.Put.{IsPut}
use Rattle.geo_c.proofs.fill.fill_side_points.Given as goal

abbrev pub invariant-loop-side : goal.invariant-loop-side
invariant-loop-side g l = IsPut (flat_map side_points (take l.side-index l.sides)) l.fn.out l.out l.next
