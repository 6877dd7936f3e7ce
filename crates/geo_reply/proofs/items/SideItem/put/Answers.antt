use Rattle.geo_reply.proofs.Fronts.{front_through}
use Rattle.geo_reply.proofs.items.SideItem.put.Goals as goal

pub returns-clause-front : goal.returns-clause-front
returns-clause-front g c =
    front_through c.put_points.result c.args.out.now.items _ c.append_to.new.out.items c.put_points.new.out.items c.in_ok-append_to.ensures.ok
    c.put_points.ensures.front
