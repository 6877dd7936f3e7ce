use Rattle.std.proofs.lemmas.Bool.{false_from_ne_true, not_from_false}
use Rattle.plane.proofs.Meetings.{segments_apart, segments_meet_from}
use Rattle.exact_plane.proofs.segments.segments_meet.Goals as goal

pub returns-then-not-boxes_meet-clause-meet : goal.returns-then-not-boxes_meet-clause-meet
returns-then-not-boxes_meet-clause-meet g c =
    (λ h. cc, λ meet. absurd (cc (c.boxes_meet.ensures.meet.1 (segments_apart _ _ _ _ meet).0, c.if-not-boxes_meet.true)))

pub returns-then-is_beside-clause-meet : goal.returns-then-is_beside-clause-meet
returns-then-is_beside-clause-meet g c =
    (λ h. cc, λ meet. absurd ((segments_apart _ _ _ _ meet).1 (c.is_beside.ensures.beside.0 c.if-is_beside.true)))

pub returns-clause-meet : goal.returns-clause-meet
returns-clause-meet g c =
    let boxes = c.boxes_meet.ensures.meet.0 c.if-not-boxes_meet.false in (
      λ h. segments_meet_from _ _ _ _ boxes
          (λ beside. absurd (cc (c.is_beside.ensures.beside.1 beside, c.if-is_beside.false)))
          (λ beside. absurd (cc (c.is_beside-2.ensures.beside.1 beside, h))),
      λ meet. not_from_false _ (false_from_ne_true _ (λ h. (segments_apart _ _ _ _ meet).2 (c.is_beside-2.ensures.beside.0 h))),
    )
