use Rattle.std.proofs.Common.{take}
use Rattle.std.specs.Prelude.{flat_map}
use Rattle.geo_c.specs.Contents.{sight_numbers}
use Rattle.geo_c.specs.Put.{IsPut}
use Rattle.geo_c.proofs.numbers.fill_sights.Given as goal

abbrev pub invariant-loop-pair : goal.invariant-loop-pair
invariant-loop-pair l = IsPut (flat_map sight_numbers (take l.pair-index l.pairs)) l.fn.out l.out l.next
