use Rattle.geo_session.proofs.parts.turned_parts.Goals as goal
use Rattle.geo_reply.proofs.MapFront.{map_pushed, map_room}
use Rattle.geo_reply.proofs.Fronts.{none_of_err}
use Rattle.rings.specs.Visible.{turned_part}
use Rattle.std.proofs.Common.{◌∙◌, ap, arith}

pub loop-part-preserved : goal.loop-part-preserved
loop-part-preserved c =
    record {
      put = map_pushed (turned_part c.args.size) c.args.parts.now c.loop-part.part-index c.loop-part.turned.items c.loop-part.invariant.put c.part-item.result _ _ c.loop-part-test.true (c.turned_part.ensures ∙ ap (turned_part c.args.size) c.part-item.is) c.push_reserved.ensures.items;
      room = rw c.push_reserved.ensures.capacity c.loop-part.invariant.room;
    }

pub push_reserved-requires : goal.push_reserved-requires
push_reserved-requires c =
    let room = map_room (turned_part c.args.size) c.args.parts.now c.loop-part.part-index c.loop-part.turned.items c.loop-part.invariant.put _ c.loop-part-test.true c.loop-part.invariant.room in
    omega (arith, room, c.loop-part.turned.ok.0)

pub returns-in_err-turned : goal.returns-in_err-turned
returns-in_err-turned c =
    none_of_err _ c.from_residual.result c.from_residual.ensures.0

pub loop-part-init : goal.loop-part-init
loop-part-init c =
    record { put = c.in_ok-turned.ensures.items; room = c.in_ok-turned.ensures.capacity }
