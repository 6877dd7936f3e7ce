use Rattle.std.proofs.Common.{ap, arith, refl}
use Rattle.rings.specs.Ring.{vertex}
use Rattle.ring_check.proofs.Below.{below_as, by_both, by_finish, by_start}
use Rattle.ring_check.proofs.edge_order.is_below.Goals as goal

pub returns-in-true-false-clause-below : goal.returns-in-true-false-clause-below
returns-in-true-false-clause-below g c = λ h.
    below_as c.args.events.now.points.now c.ends_of-lower.ensures.first c.ends_of-lower.ensures.last c.ends_of-upper.ensures.first c.ends_of-upper.ensures.last
    (by_finish _ _ (ap (vertex c.args.events.now.points.now) (let e = c.in-true-false.is-0 in grind arith)) (c.ends_below.ensures.below h))

pub returns-in-false-true-clause-below : goal.returns-in-false-true-clause-below
returns-in-false-true-clause-below g c = λ h.
    below_as c.args.events.now.points.now c.ends_of-lower.ensures.first c.ends_of-lower.ensures.last c.ends_of-upper.ensures.first c.ends_of-upper.ensures.last
    (by_start _ _ (c.starts_below.ensures.below h) (ap (vertex c.args.events.now.points.now) (let e = c.in-false-true.is-1 in grind arith)))

pub returns-then-starts_below-clause-below : goal.returns-then-starts_below-clause-below
returns-then-starts_below-clause-below g c = λ h.
    below_as c.args.events.now.points.now c.ends_of-lower.ensures.first c.ends_of-lower.ensures.last c.ends_of-upper.ensures.first c.ends_of-upper.ensures.last
    (by_both _ _ (c.if-starts_below.ensures.below refl) (c.ends_below-then-starts_below.ensures.below h))
