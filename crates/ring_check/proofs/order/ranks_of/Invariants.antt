use Rattle.ring_check.proofs.Orders.{AreRanked}
use Rattle.ring_check.proofs.order.ranks_of.Given as goal

abbrev pub invariant-loop-place : goal.invariant-loop-place
invariant-loop-place l = AreRanked l.order l.place l.ranks.items
