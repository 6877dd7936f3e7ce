use Rattle.ring_check.proofs.Reflex.{reflex_iff_right}
use Rattle.ring_check.proofs.ring.Ring.is_reflex.Goals as goal

pub returns-clause-reflex : goal.returns-clause-reflex
returns-clause-reflex g c =
    let is = reflex_iff_right c.args.self.now.corners c.args.i c.len-is_counterclockwise.ensures.counterclockwise in
    let right = rw (c.previous.ensures, c.next.ensures, c.corner.ensures) at c.turns_right.ensures.right in
    (λ h. is.1 (right.0 h), λ h. right.1 (is.0 h))
