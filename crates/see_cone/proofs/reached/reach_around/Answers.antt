use Rattle.std.proofs.Common.{◌≡◌, ◌+◌, None, ap, arith, rules, subst}
use Rattle.see_cone.proofs.ReachedMore.{done_more, done_skip, grown_beyond, grown_none, new_beyond, reached_above, sides_done}
use Rattle.see_cone.proofs.reached.reach_around.Goals as goal
use Rattle.see_cone.specs.Reached.{IsAcrossSide, IsBeyondFirst, IsReachGrown, IsSideReached, tri_there}
use Rattle.see_cone.specs.declared.reached.Reached.{Reached}

pub loop-side-init : goal.loop-side-init
loop-side-init g c =
    record {
      grown = grown_none c.args.reached.now.items _;
      are = reached_above c.requires.fits c.requires.reached (c.args.place + 1) (omega arith);
      done = λ t h. absurd (omega arith);
      each = omega arith;
      steps = omega arith;
    }

pub reach_over-requires-clause-place : goal.reach_over-requires-clause-place
reach_over-requires-clause-place g c = omega (arith, c.requires.place, c.loop-side.invariant.grown.longer)

pub reach_over-requires-clause-reached : goal.reach_over-requires-clause-reached
reach_over-requires-clause-reached g c = c.loop-side.invariant.are

pub reach_over-requires-clause-new : goal.reach_over-requires-clause-new
reach_over-requires-clause-new g c =
    new_beyond c.requires.fits c.loop-side.side c.requires.place (omega arith) c.requires.reached c.loop-side.invariant.grown

pub loop-side-preserved : goal.loop-side-preserved
loop-side-preserved g c =
    let tris = c.args.mesh.now in
    let p = c.args.place in
    let side = c.loop-side.side in
    let a = c.args.reached.now.items in
    let b = c.loop-side.reached.items in
    let after = c.reach_over.new.reached.items in
    let before = c.loop-side.invariant in
    let step = c.in_ok-reach_over.ensures in
    let same : tri_there b p ≡ tri_there a p = ap (λ (o : Reached). o.tri) (before.grown.kept p c.requires.place) in
    record {
      grown = grown_beyond tris (tri_there a p) side a b after before.grown
          (subst (λ k. IsReachGrown b after (IsAcrossSide tris k side)) same step.grown);
      are = step.reached;
      done = sides_done tris (tri_there a p) side b after (IsAcrossSide tris (tri_there b p) side) step.grown before.done
          (subst (λ k. IsSideReached tris after k side) same step.done);
      each = omega (arith, before.each, step.each);
      steps = omega (arith, before.steps, step.steps);
    }

pub returns-in_err-reach_over-clause-steps : goal.returns-in_err-reach_over-clause-steps
returns-in_err-reach_over-clause-steps g c = omega (arith, c.loop-side.invariant.steps, c.reach_over.ensures.steps)

pub returns-clause-longer : goal.returns-clause-longer
returns-clause-longer g c = c.loop-side.invariant.grown.longer

pub returns-clause-reached : goal.returns-clause-reached
returns-clause-reached g c = c.loop-side.invariant.are

pub returns-clause-done : goal.returns-clause-done
returns-clause-done g c =
    let tris = c.args.mesh.now in
    let a = c.args.reached.now.items in
    let p = c.args.place in
    let side = c.loop-side.side in
    done_more tris a c.loop-side.reached.items (IsBeyondFirst tris (tri_there a p) side) p c.requires.place c.loop-side.invariant.grown
    c.requires.done (λ cone t number. c.loop-side.invariant.done t (omega (arith, c.loop-side-test.false)))

pub returns-then-is_none-clause-reached : goal.returns-then-is_none-clause-reached
returns-then-is_none-clause-reached g c =
    reached_above c.requires.fits c.requires.reached (c.args.place + 1) (omega arith)

pub returns-then-is_none-clause-done : goal.returns-then-is_none-clause-done
returns-then-is_none-clause-done g c =
    let none : c.at.result.now.cone ≡ None = search rules in
    done_skip c.args.mesh.now c.args.reached.now.items c.args.place (subst (λ (o : Reached). o.cone ≡ None) c.at.ensures none) c.requires.done
