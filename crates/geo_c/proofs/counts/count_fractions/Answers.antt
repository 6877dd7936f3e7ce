use Rattle.std.proofs.Common.{arith}
use Rattle.geo_c.proofs.Counting.{length_of_corners}
use Rattle.geo_c.proofs.Twos.{fractions_length}
use Rattle.geo_c.proofs.counts.count_fractions.Goals as goal

pub returns-in-View : goal.returns-in-View
returns-in-View c = grind (arith, fractions_length)

pub returns-in-Kernel : goal.returns-in-Kernel
returns-in-Kernel c = grind (arith, length_of_corners)
