use Rattle.std.proofs.Common.{take}
use Rattle.std.specs.Prelude.{map}
use Rattle.geo_c.specs.Contents.{before_number}
use Rattle.geo_c.specs.Put.{IsPut}
use Rattle.geo_c.proofs.numbers.fill_befores.Given as goal

abbrev pub invariant-loop-before : goal.invariant-loop-before
invariant-loop-before l = IsPut (map before_number (take l.before-index l.befores)) l.fn.out l.out l.next
