use Rattle.std.proofs.Common.{arith}
use Rattle.geo_c.proofs.Counting.{length_of_sides, length_of_sights}
use Rattle.geo_c.proofs.counts.count_numbers.Goals as goal

pub returns-in-Hull : goal.returns-in-Hull
returns-in-Hull c = grind (arith, length_of_sides)

pub returns-in-Sights : goal.returns-in-Sights
returns-in-Sights c = grind (arith, length_of_sights)
