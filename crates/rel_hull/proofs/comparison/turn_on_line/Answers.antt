use Rattle.std.proofs.lemmas.List.{get_or_read}
use Rattle.rel_hull.proofs.PathTurns.{otherwise_second}
use Rattle.rel_hull.proofs.comparison.turn_on_line.Goals as goal
use Rattle.rings.specs.Ring.{origin}

pub returns-else-on_segment-2-clause-turn : goal.returns-else-on_segment-2-clause-turn
returns-else-on_segment-2-clause-turn g c =
    let p = get_or_read c.args.first.now 0 c.index-first-0.result c.requires.some c.index-first-0.is origin in
    let q = get_or_read c.args.second.now 0 c.index-second-0.result c.requires.others c.index-second-0.is origin in
    let apart = rw (p, q) at c.on_segment.ensures.on in
    let further = rw (p, q) at c.on_segment-else-on_segment.ensures.on in
    otherwise_second _ _ _ _ _ _ c.requires.straight (λ on. absurd (cc (apart.1 on, c.if-on_segment.false)))
    (λ on. absurd (cc (further.1 on, c.if-on_segment-2.false))) c.turn_on-else-on_segment-2.ensures.turn
