use Rattle.std.proofs.Common.{◌≡◌, ◌≢◌, ℕ, ◌+◌, ◌-◌, ◌^◌, ◌<◌, ◌≤◌, length, take}
use Rattle.rel_hull.proofs.Costs.{AreLeft}
use Rattle.rel_hull.proofs.comparison.halved_front.Given as goal
use Rattle.rings.specs.Chain.{point_at}

abbrev pub invariant-loop-k : goal.invariant-loop-k
invariant-loop-k g l = record {
  some : 0 < l.k;
  below : l.k ≤ l.end;
  within : l.end ≤ length l.ab;
  within_other : l.end ≤ length l.ac;
  same : take l.k l.ab ≡ take l.k l.ac;
  apart : l.end < length l.ab → l.end < length l.ac → point_at l.ab l.end ≢ point_at l.ac l.end;
  steps : (d : ℕ) → length l.ab < 2 ^ d → AreLeft (l.end - l.k) (l.fn.steps + d) l.steps;
}

abbrev pub decreases-loop-k : goal.decreases-loop-k
decreases-loop-k g l = l.end - l.k
