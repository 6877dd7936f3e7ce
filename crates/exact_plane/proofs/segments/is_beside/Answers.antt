use Rattle.std.proofs.Common.{arith, sym, ◌∙◌}
use Rattle.exact_plane.proofs.Directions.{direction_of_one_sign, one_sign_of_direction, zero_has_no_sign, zero_of_straight}
use Rattle.exact_plane.proofs.segments.is_beside.Goals as goal

pub returns-in-Straight-clause-beside : goal.returns-in-Straight-clause-beside
returns-in-Straight-clause-beside g c =
    let zero = zero_of_straight _ (sym c.turn.ensures.turn ∙ c.in-Straight.is) in
    (λ h. cc, λ beside. absurd (zero_has_no_sign _ _ zero beside))

pub returns-in_default : goal.returns-in_default
returns-in_default g c =
    let side = c.turn.ensures.turn in
    record {
      beside = (
        λ h. one_sign_of_direction _ _ (c.turns.ensures.turns.0 h ∙ side) (λ e. c.in_default.not-Straight (side ∙ e)),
        λ beside. c.turns.ensures.turns.1 (direction_of_one_sign _ _ beside ∙ sym side),
      );
      steps_least = omega arith;
      steps_most = omega arith;
    }
