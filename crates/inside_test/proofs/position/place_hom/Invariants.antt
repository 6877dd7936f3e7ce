use Rattle.std.proofs.Common.{◌+◌, ◌*◌, ◌≤◌, ◌-◌, length, take}
use Rattle.rings.specs.Edge.{edges_of}
use Rattle.inside_test.proofs.position.place_hom.Given as goal
use Rattle.inside_test.specs.Odd.{OddSoFar}

abbrev pub invariant-loop-first : goal.invariant-loop-first
invariant-loop-first g l = OddSoFar (take l.first (edges_of l.ring.corners)) l.p l.is_odd
    × (l.first ≤ length l.ring.corners)
    × (l.steps ≤ l.fn.steps + (1280 * l.first + 64))

abbrev pub decreases-loop-first : goal.decreases-loop-first
decreases-loop-first g l = l.n - l.first
