use Rattle.std.proofs.Common.{◌+◌, ◌-◌, ◌*◌, ◌/◌, ◌≤◌, length, arith}
use Rattle.std.proofs.lemmas.Nat.{mul-le}
use Rattle.shared_seq.proofs.Digits.{binary_digits_mono}
use Rattle.shared_seq.specs.Digits.{binary_digits}
use Rattle.taut_check.proofs.TautParts.{sound_in_part}
use Rattle.geo_session.proofs.HalvedLists.{part_length, round_paid}
use Rattle.geo_session.proofs.held.Held.taut_part.Goals as goal

pub loop-taut-init : goal.loop-taut-init
loop-taut-init g c =
    let each = 5300 * length c.args.self.now.ring.corners + length c.args.points.now in
    let fewer : binary_digits (length c.args.points.now - 0 - 1) * each ≤ binary_digits (length c.args.points.now) * each =
    mul-le _ each _ each (binary_digits_mono _ _ (omega arith)) (omega arith) in
    record { within = omega arith; known = omega arith; sound = λ k below. absurd (omega (arith, below)); steps = omega (arith, fewer) }

pub returns-in_err-is_path-clause-steps : goal.returns-in_err-is_path-clause-steps
returns-in_err-is_path-clause-steps g c =
    let loop = c.loop-taut.invariant in
    let middle = c.loop-taut.taut + (c.loop-taut.over - c.loop-taut.taut) / 2 in
    let part = part_length c.args.points.now (c.loop-taut.taut - 2) middle (omega arith) (omega (arith, loop.known)) in
    let paid = round_paid (c.loop-taut.over - c.loop-taut.taut - 1) 0 (5300 * length c.args.self.now.ring.corners + length c.args.points.now) _ _ c.is_path.new.steps (omega arith) (omega arith) loop.steps
    (omega (arith, c.is_path.ensures.steps, c.saturating_sub.ensures, loop.known, part)) in
    omega (arith, paid)

pub loop-taut-preserved-then-branch : goal.loop-taut-preserved-then-branch
loop-taut-preserved-then-branch g c =
    let loop = c.loop-taut.invariant in
    let middle = c.loop-taut.taut + (c.loop-taut.over - c.loop-taut.taut) / 2 in
    let part = part_length c.args.points.now (c.loop-taut.taut - 2) middle (omega arith) (omega (arith, loop.known)) in
    record {
      within = omega arith;
      known = loop.known;
      sound = sound_in_part c.args.self.now.ring.corners c.args.points.now (c.loop-taut.taut - 2) middle part
          (rw c.saturating_sub.ensures at (c.in_ok-is_path.ensures.bent c.if-branch.true))
          (λ some k below. loop.sound k (omega (arith, some, below)));
      steps = round_paid (c.loop-taut.over - c.loop-taut.taut - 1) _ (5300 * length c.args.self.now.ring.corners + length c.args.points.now) _ _ c.is_path.new.steps (omega arith) (omega arith) loop.steps
          (omega (arith, c.is_path.ensures.steps, c.saturating_sub.ensures, loop.known, part));
    }

pub loop-taut-preserved : goal.loop-taut-preserved
loop-taut-preserved g c =
    let loop = c.loop-taut.invariant in
    let middle = c.loop-taut.taut + (c.loop-taut.over - c.loop-taut.taut) / 2 in
    let part = part_length c.args.points.now (c.loop-taut.taut - 2) middle (omega arith) (omega (arith, loop.known)) in
    record {
      within = omega arith;
      known = omega (arith, loop.known);
      sound = loop.sound;
      steps = round_paid (c.loop-taut.over - c.loop-taut.taut - 1) _ (5300 * length c.args.self.now.ring.corners + length c.args.points.now) _ _ c.is_path.new.steps (omega arith) (omega arith) loop.steps
          (omega (arith, c.is_path.ensures.steps, c.saturating_sub.ensures, loop.known, part));
    }
