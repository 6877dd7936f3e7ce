use Rattle.std.proofs.Common.{◌+◌, reverse}
use Rattle.dual_tree.proofs.Ways.{AreWays}
use Rattle.dual_tree.proofs.walk.walk_between.Given as goal

abbrev pub invariant-loop-front : goal.invariant-loop-front
invariant-loop-front l =
    AreWays l.mesh l.rooted.order.now l.from l.to l.front.place (reverse l.front.left.items) l.back.place (reverse l.back.left.items)

abbrev pub decreases-loop-front : goal.decreases-loop-front
decreases-loop-front l = l.front.place + l.back.place
