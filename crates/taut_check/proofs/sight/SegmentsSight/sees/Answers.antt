use Rattle.std.proofs.Common.{arith}
use Rattle.taut_check.proofs.sight.SegmentsSight.sees.Goals as goal

pub returns-clause-sees : goal.returns-clause-sees
returns-clause-sees g c = λ ring of. rw (← of) c.holds_segment.ensures.holds

pub returns-clause-steps : goal.returns-clause-steps
returns-clause-steps g c = λ most asks. omega (arith, asks.enough, c.holds_segment.ensures.steps asks.digits asks.below)
