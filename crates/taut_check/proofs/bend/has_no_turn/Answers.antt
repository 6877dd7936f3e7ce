use Rattle.exact_plane.proofs.Directions.{straight_of_zero, zero_of_straight}
use Rattle.taut_check.proofs.bend.has_no_turn.Goals as goal

pub returns-clause-straight : goal.returns-clause-straight
returns-clause-straight g c =
    let line = rw (c.point-p.ensures, c.point-v.ensures, c.point-q.ensures) at c.turns.ensures.turns in (
      λ h. record { inner = c.requires; straight = zero_of_straight _ (line.0 h) },
      λ flat. line.1 (straight_of_zero _ flat.straight),
    )
