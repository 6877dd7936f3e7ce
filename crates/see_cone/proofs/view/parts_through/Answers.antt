use Rattle.std.proofs.Common.{◌≡◌, None, arith, get_or}
use Rattle.std.proofs.lemmas.List.{get_or_default}
use Rattle.see_cone.proofs.EdgesTold.{few_edges, number_there, parts_end, parts_next, parts_start}
use Rattle.see_cone.proofs.view.parts_through.Goals as goal
use Rattle.see_cone.specs.Reached.{placed_at, reached_at}

pub loop-placed-init : goal.loop-placed-init
loop-placed-init g c = record {
  parts = rw c.in_ok-parts.ensures.items (parts_start c.args.ring.now.corners c.args.q.now c.args.reached.now c.args.edges.now c.requires);
  steps = omega arith;
}

pub push_part-requires-clause-edge : goal.push_part-requires-clause-edge
push_part-requires-clause-edge g c = c.requires.in_ring c.loop-placed.placed-index c.loop-placed-test.true

pub push_part-requires-clause-told : goal.push_part-requires-clause-told
push_part-requires-clause-told g c =
    let reached = c.args.reached.now in
    let j = c.loop-placed.placed-index in
    let p = (placed_at c.args.edges.now j).place in
    let x = c.index-reached-placed.result in
    let here : get_or reached p x ≡ reached_at reached p =
    get_or_default reached p x (record { tri = 0; from = 0; cone = None }) (c.requires.below j c.loop-placed-test.true) in
    rw here (c.requires.told j c.loop-placed-test.true)

pub push_part-requires-clause-before : goal.push_part-requires-clause-before
push_part-requires-clause-before g c =
    rw (number_there c.args.ring.now.corners c.args.q.now c.args.reached.now c.args.edges.now c.requires c.loop-placed.placed-index
    c.loop-placed-test.true) at c.loop-placed.invariant.parts

pub loop-placed-preserved : goal.loop-placed-preserved
loop-placed-preserved g c = record {
  parts = parts_next c.args.ring.now.corners c.args.q.now c.args.reached.now c.args.edges.now c.requires c.loop-placed.placed-index
      c.loop-placed-test.true c.push_part.new.parts.items c.in_ok-push_part.ensures.parts;
  steps = omega (arith, c.loop-placed.invariant.steps, c.push_part.ensures.steps);
}

pub returns-in_err-push_part-clause-steps : goal.returns-in_err-push_part-clause-steps
returns-in_err-push_part-clause-steps g c =
    let few = few_edges c.args.ring.now.corners c.args.q.now c.args.reached.now c.args.edges.now c.requires in
    omega (arith, few, c.loop-placed-test.true, c.loop-placed.invariant.steps, c.push_part.ensures.steps)

pub returns-clause-parts : goal.returns-clause-parts
returns-clause-parts g c =
    parts_end c.args.ring.now.corners c.args.q.now c.args.reached.now c.args.edges.now c.requires c.loop-placed.placed-index
    c.loop-placed-test.false c.loop-placed.parts.items c.loop-placed.invariant.parts

pub returns-clause-steps : goal.returns-clause-steps
returns-clause-steps g c =
    let few = few_edges c.args.ring.now.corners c.args.q.now c.args.reached.now c.args.edges.now c.requires in
    omega (arith, few, c.loop-placed.auto.placed-index-end, c.loop-placed.invariant.steps)
