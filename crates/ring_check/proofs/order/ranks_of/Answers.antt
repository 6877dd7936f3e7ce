use Rattle.std.proofs.Common.{◌≡◌, length, arith}
use Rattle.ring_check.proofs.Orders.{are_events}
use Rattle.ring_check.proofs.order.ranks_of.Goals as goal

pub returns : goal.returns
returns c corners in_order =
    let all : c.loop-place.place ≡ length c.args.order.now = omega (arith, c.loop-place.auto.place-end, c.loop-place-test.false) in
    are_events corners c.args.order.now in_order c.loop-place.ranks.items (rw (← all) c.loop-place.invariant)
