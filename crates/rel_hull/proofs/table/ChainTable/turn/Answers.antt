use Rattle.std.proofs.Common.{◌-◌, arith}
use Rattle.std.proofs.lemmas.List.{get_or_read, take_rest}
use Rattle.rel_hull.proofs.PathTurns.{parted_after}
use Rattle.rel_hull.proofs.table.ChainTable.turn.Goals as goal
use Rattle.rings.specs.Ring.{origin}

pub returns-clause-turn : goal.returns-clause-turn
returns-clause-turn g c =
    let e = c.halved_front-k.ensures in
    let k = c.halved_front-k.result in
    let first = c.chain-first.result.now in
    let second = c.chain-second.result.now in
    let last = get_or_read first (k - 1) c.index-first-k.result (omega arith) c.index-first-k.is origin in
    rw (← c.chain-first.ensures.chain, ← c.chain-second.ensures.chain)
    (parted_after first second k (k - 1) c.turn_at.result (omega arith) e.within e.within_other e.same
    (rw (last, take_rest first k, take_rest second k) at c.turn_at.ensures.turn))
