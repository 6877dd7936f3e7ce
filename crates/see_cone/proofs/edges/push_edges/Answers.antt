use Rattle.std.proofs.Common.{◌≡◌, None, arith, rules, subst}
use Rattle.std.proofs.lemmas.List.{get_or_read}
use Rattle.see_cone.proofs.EdgesMore.{edges_next, edges_skip}
use Rattle.see_cone.proofs.edges.push_edges.Goals as goal
use Rattle.see_cone.specs.Reached.{AreBoundaryEdges, reached_at}
use Rattle.see_cone.specs.declared.reached.Reached.{Reached}

pub returns-then-is_none : goal.returns-then-is_none
returns-then-is_none c =
    let reached = c.args.reached.now in
    let p = c.args.place in
    let x = c.index-reached-place.result in
    let here : x ≡ reached_at reached p = get_or_read reached p x c.requires.place c.index-reached-place.is _ in
    let none : x.cone ≡ None = search rules in
    edges_skip c.args.mesh.now reached p c.args.edges.now.items (subst (λ (o : Reached). o.cone ≡ None) here none) c.requires.before

pub returns : goal.returns
returns c =
    let all : c.loop-side.side ≡ 3 = omega (arith, c.loop-side-test.false, c.loop-side.auto.side-end) in
    edges_next c.args.mesh.now c.args.reached.now c.args.place c.loop-side.edges.items
    (subst (λ n. AreBoundaryEdges c.args.mesh.now c.args.reached.now c.args.place n c.loop-side.edges.items) all c.loop-side.invariant)
