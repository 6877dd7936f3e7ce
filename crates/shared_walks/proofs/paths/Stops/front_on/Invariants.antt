use Rattle.std.proofs.Common.{◌≡◌, length}
use Rattle.std.specs.List.{All}
use Rattle.shared_walks.proofs.paths.Stops.front_on.Given as goal
use Rattle.shared_walks.specs.Fronts.{IsFront}

abbrev pub invariant-loop-front : goal.invariant-loop-front
invariant-loop-front g l = record {
  fronts : All (IsFront l.self.ring.now.corners l.self.start.now) l.fronts.items;
  steps : l.steps ≡ l.fn.steps;
}

abbrev pub decreases-loop-front : goal.decreases-loop-front
decreases-loop-front g l = length l.fronts.items
