use Rattle.std.proofs.Common.{arith}
use Rattle.ring_check.proofs.SharedPoints.{least_from}
use Rattle.ring_check.proofs.clash.find_clash.Goals as goal

pub returns-in-Some-clause-least : goal.returns-in-Some-clause-least
returns-in-Some-clause-least g c =
    let found = c.in-Some.ensures in
    least_from c.args.points.now 0 c.in-Some.j found.range.0 found.range.1 found.clash (λ k l before. omega (arith, before)) found.least
