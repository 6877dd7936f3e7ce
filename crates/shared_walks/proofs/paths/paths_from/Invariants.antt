use Rattle.std.proofs.Common.{◌*◌, ◌<◌, [], length, slice_index_or, take}
use Rattle.std.specs.List.{All}
use Rattle.shared_walks.proofs.paths.paths_from.Given as goal
use Rattle.shared_walks.specs.Fronts.{IsFront}
use Rattle.shared_walks.specs.Several.{FindsPaths, listed}

abbrev pub invariant-loop-key : goal.invariant-loop-key
invariant-loop-key g l = record {
  finds : FindsPaths l.stops.ring.now.corners l.stops.start.now l.stops.points.now (4 * length l.stops.ring.now.corners) (listed l.initial.found.items) l.initial.steps (listed l.found.items) l.steps;
  fronts : All (IsFront l.stops.ring.now.corners l.stops.start.now) l.fronts.items;
  each : All (λ key. 0 < length (slice_index_or (listed l.found.items) key.number [])) (take l.key-index l.key-items);
}
