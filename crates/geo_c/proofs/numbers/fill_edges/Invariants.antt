use Rattle.std.proofs.Common.{take}
use Rattle.std.specs.Prelude.{map}
use Rattle.geo_c.specs.Contents.{edge_of}
use Rattle.geo_c.specs.Put.{IsPut}
use Rattle.geo_c.proofs.numbers.fill_edges.Given as goal

abbrev pub invariant-loop-part : goal.invariant-loop-part
invariant-loop-part l = IsPut (map edge_of (take l.part-index l.parts)) l.fn.out l.out l.next
