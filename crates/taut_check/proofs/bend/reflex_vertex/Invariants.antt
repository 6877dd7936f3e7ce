use Rattle.std.proofs.Common.{◌+◌, ◌*◌, ◌≤◌}
use Rattle.taut_check.proofs.bend.reflex_vertex.Given as goal
use Rattle.taut_check.specs.Found.{IsNoReflexBefore}

abbrev pub invariant-loop-i : goal.invariant-loop-i
invariant-loop-i g l = IsNoReflexBefore l.ring.corners l.i l.p × (l.steps ≤ l.fn.steps + 2 * l.i)
