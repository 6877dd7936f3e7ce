use Rattle.std.specs.List.{AllAdjacentBelow}
use Rattle.std.proofs.Common.{◌+◌, ◌*◌, ◌-◌, ◌≤◌, length}
use Rattle.plane.specs.Line.{mediant}
use Rattle.rings.specs.Inside.{IsIn}
use Rattle.inside_test.proofs.segment.holds_mediants.Given as goal

abbrev pub invariant-loop-i : goal.invariant-loop-i
invariant-loop-i g l = record {
  hold : AllAdjacentBelow (λ p q. IsIn l.ring.corners (mediant p.point q.point)) l.points l.i;
  within : l.i - 1 ≤ length l.points - 1;
  steps : l.steps ≤ l.fn.steps + (l.i - 1) * (1280 * length l.ring.corners + 65);
}
