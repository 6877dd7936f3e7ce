use Rattle.std.proofs.Common.{◌≡◌, arith, length, subst}
use Rattle.see_cone.proofs.EdgesMore.{edges_sorted, no_edges}
use Rattle.see_cone.proofs.edges.edges_of.Goals as goal
use Rattle.see_cone.specs.Reached.{AreBoundaryEdges}

pub loop-place-init : goal.loop-place-init
loop-place-init c = rw c.new-edges.ensures.items (no_edges c.args.mesh.now c.args.reached.now)

pub returns : goal.returns
returns c =
    let tris = c.args.mesh.now in
    let reached = c.args.reached.now in
    let all : c.loop-place.place ≡ length reached = omega (arith, c.loop-place-test.false, c.loop-place.auto.place-end) in
    let are = subst (λ n. AreBoundaryEdges tris reached n 0 c.loop-place.edges.items) all c.loop-place.invariant in
    edges_sorted tris reached c.loop-place.edges.items c.sort_unstable.new.self.items are c.sort_unstable.ensures.permutation
    c.sort_unstable.ensures.sorted
