use Rattle.std.proofs.Common.{◌-◌, arith}
use Rattle.std.proofs.lemmas.List.{get_or_read, take_rest}
use Rattle.rel_hull.proofs.PathTurns.{parted_after}
use Rattle.rel_hull.proofs.comparison.path_turn.Goals as goal
use Rattle.rings.specs.Ring.{origin}

pub returns-clause-turn : goal.returns-clause-turn
returns-clause-turn g c =
    let e = c.common_front-k.ensures in
    let k = c.common_front-k.result in
    let last = get_or_read c.args.ab.now (k - 1) c.index-ab-k.result (omega arith) c.index-ab-k.is origin in
    parted_after c.args.ab.now c.args.ac.now k (k - 1) c.turn_at.result (omega arith) e.within e.within_other e.same
    (rw (last, take_rest c.args.ab.now k, take_rest c.args.ac.now k) at c.turn_at.ensures.turn)
