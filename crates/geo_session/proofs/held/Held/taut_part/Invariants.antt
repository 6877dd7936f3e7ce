use Rattle.std.proofs.Common.{◌+◌, ◌-◌, ◌*◌, ◌≤◌, length}
use Rattle.shared_seq.specs.Digits.{binary_digits}
use Rattle.taut_check.specs.Sound.{AreSoundBefore}
use Rattle.geo_session.proofs.held.Held.taut_part.Given as goal

abbrev pub invariant-loop-taut : goal.invariant-loop-taut
invariant-loop-taut g l =
    let each = 5300 * length l.self.ring.corners + length l.points in
    record {
      within : l.taut ≤ l.over;
      known : l.over ≤ length l.points;
      sound : AreSoundBefore l.self.ring.corners l.points (l.taut - 1);
      steps : l.steps + binary_digits (l.over - l.taut - 1) * each ≤ l.fn.steps + binary_digits (length l.points) * each;
    }

abbrev pub decreases-loop-taut : goal.decreases-loop-taut
decreases-loop-taut g l = l.over - l.taut
