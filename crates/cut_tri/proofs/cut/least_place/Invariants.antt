use Rattle.std.proofs.Common.{◌+◌, ◌<◌, ◌≤◌, length}
use Rattle.cut_tri.proofs.cut.least_place.Given as goal
use Rattle.cut_tri.specs.Piece.{IsLeastBelow}

abbrev pub invariant-loop-place : goal.invariant-loop-place
invariant-loop-place g l = (l.least < length l.piece) × IsLeastBelow l.ring.corners l.piece l.place l.least × (l.steps + 1 ≤ l.fn.steps + l.place)
