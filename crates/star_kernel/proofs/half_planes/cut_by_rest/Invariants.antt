use Rattle.std.proofs.Common.{ℕ, ◌+◌, ◌-◌, ◌*◌, ◌^◌, ◌<◌, ◌≤◌, length}
use Rattle.plane.specs.Region.{IsCornerList}
use Rattle.star_kernel.specs.HalfPlanes.{IsLeftOfFirst}
use Rattle.star_kernel.proofs.half_planes.cut_by_rest.Given as goal

abbrev pub invariant-loop-i : goal.invariant-loop-i
invariant-loop-i g l = record {
  cut : IsCornerList (IsLeftOfFirst l.ring.corners l.first l.edges.items l.i) l.region.corners;
  few : length l.region.corners ≤ l.first + l.i + 4;
  steps : (d : ℕ) → length l.ring.corners + 4 < 2 ^ d → l.steps + length l.region.corners ≤
      l.fn.steps + 128 * (length l.ring.corners - l.first) + length l.fn.region.corners + l.i * (2 * d + 15);
}
