use Rattle.geo_session.proofs.pairs.corners_of.Goals as goal
use Rattle.geo_reply.proofs.MapFront.{map_pushed, map_room, map_whole}
use Rattle.geo_reply.proofs.Fronts.{none_of_err}
use Rattle.rings.specs.Ring.{vertex}
use Rattle.std.proofs.Common.{arith}

pub loop-name-preserved : goal.loop-name-preserved
loop-name-preserved c =
    record {
      put = map_pushed (vertex c.args.ring.now.corners) c.args.names.now c.loop-name.name-index c.loop-name.points.items c.loop-name.invariant.put _ _ _ c.loop-name-test.true c.corner.ensures c.push_reserved.ensures.items;
      room = rw c.push_reserved.ensures.capacity c.loop-name.invariant.room;
    }

pub push_reserved-requires : goal.push_reserved-requires
push_reserved-requires c =
    let room = map_room (vertex c.args.ring.now.corners) c.args.names.now c.loop-name.name-index c.loop-name.points.items c.loop-name.invariant.put _ c.loop-name-test.true c.loop-name.invariant.room in
    omega (arith, room, c.loop-name.points.ok.0)

pub returns : goal.returns
returns c =
    map_whole (vertex c.args.ring.now.corners) c.args.names.now c.loop-name.name-index c.loop-name.points.items c.loop-name.invariant.put (omega (arith, c.loop-name-test.false))

pub returns-in_err-points : goal.returns-in_err-points
returns-in_err-points c =
    none_of_err _ c.from_residual.result c.from_residual.ensures.0

pub loop-name-init : goal.loop-name-init
loop-name-init c =
    record { put = c.in_ok-points.ensures.items; room = c.in_ok-points.ensures.capacity }
