use Rattle.std.proofs.Common.{arith}
use Rattle.rings.specs.Ring.{vertex}
use Rattle.pair_cut.proofs.Climbs.{tangent_at_apex, tangent_on_left, tangent_on_right}
use Rattle.pair_cut.proofs.climb.tangent_of.Goals as goal

pub returns-in-Some-clause-tangent : goal.returns-in-Some-clause-tangent
returns-in-Some-clause-tangent g c = λ points place climbs.
    let corners = g.T.Turns.corners c.args.board.now in
    tangent_on_left corners points place climbs.within (vertex corners c.args.door.third) c.args.apex climbs.at_apex c.in-Some.near
    (c.in-Some.ensures.found _ _ climbs.on_left)

pub returns-in-Some-clause-steps : goal.returns-in-Some-clause-steps
returns-in-Some-clause-steps g c =
    let (points, place, climbs) = c.requires.climbs in
    omega (arith, c.climb.ensures.steps _ _ climbs.on_left, climbs.within, climbs.few)

pub returns-in-Some-climb-clause-tangent : goal.returns-in-Some-climb-clause-tangent
returns-in-Some-climb-clause-tangent g c = λ points place climbs.
    let corners = g.T.Turns.corners c.args.board.now in
    tangent_on_right corners points place climbs.within (vertex corners c.args.door.third) c.args.apex climbs.at_apex
    (c.in_default.ensures.found _ _ climbs.on_left) c.in-Some-climb.near (c.in-Some-climb.ensures.found _ _ climbs.on_right)

pub returns-in-Some-climb-clause-steps : goal.returns-in-Some-climb-clause-steps
returns-in-Some-climb-clause-steps g c =
    let (_, _, climbs) = c.requires.climbs in
    omega (arith, c.climb.ensures.steps _ _ climbs.on_left, c.climb-2.ensures.steps _ _ climbs.on_right, climbs.within, climbs.few)

pub returns-clause-tangent : goal.returns-clause-tangent
returns-clause-tangent g c = λ points place climbs.
    let corners = g.T.Turns.corners c.args.board.now in
    tangent_at_apex corners points place climbs.within (vertex corners c.args.door.third) c.args.apex climbs.at_apex
    (c.in_default.ensures.found _ _ climbs.on_left) (c.in_default-climb.ensures.found _ _ climbs.on_right)

pub returns-clause-steps : goal.returns-clause-steps
returns-clause-steps g c =
    let (_, _, climbs) = c.requires.climbs in
    omega (arith, c.climb.ensures.steps _ _ climbs.on_left, c.climb-2.ensures.steps _ _ climbs.on_right, climbs.within, climbs.few)
