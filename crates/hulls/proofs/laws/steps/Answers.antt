use Rattle.hulls.proofs.StepsSeen.{steps}
use Rattle.hulls.proofs.laws.steps.Goals as goal

pub returns : goal.returns
returns c = steps
