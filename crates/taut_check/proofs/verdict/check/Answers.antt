use Rattle.std.proofs.Common.{arith}
use Rattle.taut_check.proofs.verdict.check.Goals as goal

pub check_from-requires-clause-sound : goal.check_from-requires-clause-sound
check_from-requires-clause-sound g c = λ k below. absurd (omega (arith, below))

pub returns-clause-steps : goal.returns-clause-steps
returns-clause-steps g c = λ d below. c.check_from.ensures.steps _ (record { digits = d; below = below; enough = omega arith })
