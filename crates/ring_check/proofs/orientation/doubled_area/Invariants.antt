use Rattle.std.proofs.Common.{◌≡◌, ◌+◌, ◌-◌, ◌≤◌, ◌*◌, ◌^◌, ◌+ℤ◌}
use Rattle.std.specs.Prelude.{unsigned_abs}
use Rattle.rings.specs.Orientation.{doubled_area}
use Rattle.ring_check.proofs.AreaSoFar.{rest}
use Rattle.ring_check.proofs.orientation.doubled_area.Given as goal

-- what is swept out so far and what is left are the whole area
abbrev pub invariant-loop-i : goal.invariant-loop-i
invariant-loop-i g l =
    (l.area +ℤ rest l.points l.i ≡ doubled_area l.points) × (unsigned_abs l.area ≤ 2 ^ 47 * l.i) × (l.steps ≡ l.fn.steps + 128 * (l.i - 1))
