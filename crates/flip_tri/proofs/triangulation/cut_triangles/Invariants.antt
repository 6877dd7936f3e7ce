use Rattle.std.proofs.Common.{◌+◌, ◌*◌, length}
use Rattle.flip_tri.proofs.Progress.{IsUnderWay, looks_left}
use Rattle.flip_tri.proofs.triangulation.cut_triangles.Given as goal

abbrev pub invariant-loop-near : goal.invariant-loop-near
invariant-loop-near g l =
    let n = length l.ring.corners in
    IsUnderWay l.ring.corners (l.fn.steps + 24 * (n * n)) l.flips.tris.items l.flips.neighbours.items l.waiting l.steps

abbrev pub decreases-loop-near : goal.decreases-loop-near
decreases-loop-near g l = looks_left l.ring.corners l.flips.tris.items l.waiting.numbers
