use Rattle.std.proofs.Common.{◌≡◌, ◌≤◌, length, take, vec_capacity}
use Rattle.star_kernel.proofs.half_planes.corners_of.Given as goal

abbrev pub invariant-loop-i : goal.invariant-loop-i
invariant-loop-i l = record {
  put : l.corners.items ≡ take l.i l.region.corners;
  room : length l.region.corners ≤ vec_capacity l.corners;
}
