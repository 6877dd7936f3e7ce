use Rattle.std.proofs.Common.{◌≡◌, ◌+◌, ◌-◌, ◌<◌, ◌≤◌, length, take}
use Rattle.rel_hull.proofs.comparison.common_front.Given as goal

abbrev pub invariant-loop-k : goal.invariant-loop-k
invariant-loop-k g l = record {
  some : 0 < l.k;
  within : l.k ≤ length l.ab;
  within_other : l.k ≤ length l.ac;
  same : take l.k l.ab ≡ take l.k l.ac;
  steps : l.steps + 1 ≤ l.fn.steps + l.k;
}

abbrev pub decreases-loop-k : goal.decreases-loop-k
decreases-loop-k g l = length l.ab - l.k
