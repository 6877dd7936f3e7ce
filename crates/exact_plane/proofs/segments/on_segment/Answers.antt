use Rattle.plane.proofs.Segments.{on_segment_from, on_segment_is}
use Rattle.exact_plane.proofs.Directions.{straight_of_zero, zero_of_straight}
use Rattle.exact_plane.proofs.segments.on_segment.Goals as goal

pub returns-then-turns-clause-on : goal.returns-then-turns-clause-on
returns-then-turns-clause-on g c =
    let straight = zero_of_straight _ (c.turns.ensures.turns.0 c.if-turns.true) in
    let between = c.is_between.ensures.between in
    (λ h. on_segment_from _ _ _ straight (between.0 h), λ on. between.1 (on_segment_is _ _ _ on).1)

pub returns-else-turns-clause-on : goal.returns-else-turns-clause-on
returns-else-turns-clause-on g c =
    (λ h. absurd (cc (h, c.if-turns.false)), λ on. c.turns.ensures.turns.1 (straight_of_zero _ (on_segment_is _ _ _ on).0))
