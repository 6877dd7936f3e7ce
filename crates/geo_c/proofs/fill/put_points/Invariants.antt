use Rattle.std.proofs.Common.{List, ◌++◌, take}
use Rattle.plane.specs.Point.{Point}
use Rattle.geo_c.specs.Put.{IsPut}
use Rattle.geo_c.proofs.fill.put_points.Given as goal

abbrev pub invariant-loop-point : goal.invariant-loop-point
invariant-loop-point g l = (items before : List Point) → IsPut items before l.fn.out l.fn.next → IsPut (items ++ take l.point-index l.points) before l.out l.next
