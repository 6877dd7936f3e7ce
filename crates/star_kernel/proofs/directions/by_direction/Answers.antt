use Rattle.std.proofs.Common.{◌≡◌, length, subst, arith}
use Rattle.star_kernel.proofs.EdgeOrders.{edges_moved}
use Rattle.star_kernel.proofs.directions.by_direction.Goals as goal
use Rattle.star_kernel.specs.HalfPlanes.{AreEdges}

pub returns-clause-edges : goal.returns-clause-edges
returns-clause-edges g c =
    let first = c.args.first in
    let count = length c.args.ring.now.corners in
    let edges = c.loop-number.edges.items in
    let all : c.loop-number.number ≡ count =
    omega (arith, c.requires, c.len-n.ensures.number, c.loop-number-test.false, c.loop-number.auto.number-end) in
    edges_moved first count edges c.sort_unstable.new.self.items (subst (λ n. AreEdges first n edges) all c.loop-number.invariant.edges)
    c.sort_unstable.ensures.permutation
