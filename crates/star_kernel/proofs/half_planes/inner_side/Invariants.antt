use Rattle.std.proofs.Common.{ℕ, ◌+◌, ◌-◌, ◌*◌, ◌^◌, ◌<◌, ◌≤◌, length}
use Rattle.plane.specs.Region.{IsCornerList}
use Rattle.star_kernel.specs.HalfPlanes.{IsLeftOfBelow}
use Rattle.star_kernel.proofs.half_planes.inner_side.Given as goal

abbrev pub invariant-loop-first : goal.invariant-loop-first
invariant-loop-first g l = record {
  within : l.first ≤ length l.ring.corners;
  cut : IsCornerList (IsLeftOfBelow l.ring.corners l.first) l.region.corners;
  few : length l.region.corners ≤ l.first + 4;
  steps : (d : ℕ) → length l.ring.corners + 4 < 2 ^ d → l.steps + length l.region.corners ≤ l.fn.steps + 4 + l.first * (2 * d + 15);
}

abbrev pub decreases-loop-first : goal.decreases-loop-first
decreases-loop-first g l = length l.ring.corners - l.first
