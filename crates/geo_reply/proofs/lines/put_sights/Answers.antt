use Rattle.geo_reply.proofs.lines.put_sights.Goals as goal
use Rattle.geo_text.proofs.LineFronts.{front_after}

pub returns-in_err-put_sight-clause-front : goal.returns-in_err-put_sight-clause-front
returns-in_err-put_sight-clause-front c =
    front_after _ c.args.out.now.items _ c.loop-pair.out.items c.put_sight.new.out.items c.loop-pair.invariant c.in_err-put_sight.ensures.front
