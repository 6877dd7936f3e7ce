use Rattle.std.proofs.Common.{ℕ, ◌<◌}
use Rattle.plane.specs.Point.{IsInBounds}
use Rattle.rings.specs.Ring.{vertex}
use Rattle.star_kernel.proofs.half_planes.coordinate_bounds.Given as goal

abbrev pub invariant-loop-k : goal.invariant-loop-k
invariant-loop-k l = (i : ℕ) → i < l.k → IsInBounds (vertex l.ring.corners i)
