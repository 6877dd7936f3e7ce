use Rattle.std.proofs.Common.{subst}
use Rattle.rings.specs.Simple.{IsSimple}
use Rattle.ring_check.proofs.sweep.shows_simple.Goals as goal

pub returns-in-Some-clause-simple : goal.returns-in-Some-clause-simple
returns-in-Some-clause-simple g c = λ h. subst IsSimple c.in-Some.ensures.points (c.passes_all.ensures.simple h)
