use Rattle.shared_walks.proofs.KeptFronts.{fronts_popped}
use Rattle.shared_walks.proofs.paths.Stops.front_on.Goals as goal

pub returns-then-is_on-clause-front : goal.returns-then-is_on-clause-front
returns-then-is_on-clause-front g c = (fronts_popped _ _ _ _ _ c.in-Some.ensures.items c.loop-front.invariant.fronts).1

pub returns-then-is_on-clause-fronts : goal.returns-then-is_on-clause-fronts
returns-then-is_on-clause-fronts g c = (fronts_popped _ _ _ _ _ c.in-Some.ensures.items c.loop-front.invariant.fronts).0

pub loop-front-preserved : goal.loop-front-preserved
loop-front-preserved g c = record {
  fronts = (fronts_popped _ _ _ _ _ c.in-Some.ensures.items c.loop-front.invariant.fronts).0;
  steps = c.loop-front.invariant.steps;
}
