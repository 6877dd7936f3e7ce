use Rattle.std.proofs.Common.{subst, ◌+◌, ◌≤◌, length, arith}
use Rattle.meshes.proofs.Sides.{two_fewer}
use Rattle.shared_seq.specs.Digits.{binary_digits}
use Rattle.path_tree.proofs.StepCounts.{home_steps}
use Rattle.path_tree.proofs.GrownOver.{grown_at_end, no_funnel_at_home}
use Rattle.path_tree.proofs.TreeSteps.{tree_steps}
use Rattle.path_tree.proofs.tree.PathTree.build.Goals as goal
use Rattle.path_tree.specs.Growing.{HasGrown, tree_so_far}

pub returns-in_err-growth-clause-steps : goal.returns-in_err-growth-clause-steps
returns-in_err-growth-clause-steps g c =
    let n = length (g.T.Turns.corners c.args.board.now) in
    let count = two_fewer (g.T.Turns.corners c.args.board.now) c.args.mesh.now c.requires.fits in
    omega (arith, c.at_home.ensures.steps, home_steps n (omega (arith, count)), tree_steps 1 n (binary_digits n) (omega (arith, count)))

pub loop-p-init : goal.loop-p-init
loop-p-init g c =
    let corners = g.T.Turns.corners c.args.board.now in
    let count = two_fewer corners c.args.mesh.now c.requires.fits in
    record {
      later = omega arith;
      grown = subst (λ order. HasGrown corners (g.T.Turns.start c.args.board.now) c.args.mesh.now order 1 c.in_ok-growth.growth) c.deref.ensures.value
          c.in_ok-growth.ensures.grown;
      steps = omega (arith, c.at_home.ensures.steps, home_steps (length corners) (omega (arith, count)));
    }

pub returns-in_err-go_on-clause-steps : goal.returns-in_err-go_on-clause-steps
returns-in_err-go_on-clause-steps g c =
    let n = length (g.T.Turns.corners c.args.board.now) in
    let count = two_fewer (g.T.Turns.corners c.args.board.now) c.args.mesh.now c.requires.fits in
    let p = c.loop-p.p in
    let within : p + 1 ≤ n =
    omega (arith, c.loop-p-test.true, c.len-p-end.ensures, c.in_ok-order.order.ok.0, c.in_ok-order.ensures.count, count) in
    omega (arith, c.loop-p.invariant.steps, c.go_on.ensures.steps, tree_steps (p + 1) n (binary_digits n) within)

pub loop-p-preserved : goal.loop-p-preserved
loop-p-preserved g c =
    let corners = g.T.Turns.corners c.args.board.now in
    let before = c.loop-p.invariant in
    record {
      later = omega arith;
      grown = subst (λ order. HasGrown corners (g.T.Turns.start c.args.board.now) c.args.mesh.now order (c.loop-p.p + 1) c.go_on.new.self)
          c.deref-in-loop-p.ensures.value c.in_ok-go_on.ensures.grown;
      steps = omega (arith, before.steps, c.go_on.ensures.steps);
    }

pub invariant_of-result : goal.invariant_of-result
invariant_of-result g c =
    let corners = g.T.Turns.corners c.args.board.now in
    record {
      corners = corners;
      start = g.T.Turns.start c.args.board.now;
      tris = c.args.mesh.now;
      fits = c.requires.fits;
      grown = grown_at_end corners (g.T.Turns.start c.args.board.now) c.args.mesh.now c.args.home c.in_ok-order.order.items c.loop-p.p
          c.len-p-end.result (tree_so_far c.loop-p.growth) c.requires.fits
          c.requires.home c.requires.start c.in_ok-order.ensures (omega (arith, c.len-p-end.ensures, c.in_ok-order.order.ok.0))
          c.loop-p-test.false c.loop-p.auto.p-end c.loop-p.invariant.grown.over;
    }

pub returns-clause-grown : goal.returns-clause-grown
returns-clause-grown g c =
    let corners = g.T.Turns.corners c.args.board.now in
    grown_at_end corners (g.T.Turns.start c.args.board.now) c.args.mesh.now c.args.home c.in_ok-order.order.items c.loop-p.p
    c.len-p-end.result (tree_so_far c.loop-p.growth) c.requires.fits
    c.requires.home c.requires.start c.in_ok-order.ensures (omega (arith, c.len-p-end.ensures, c.in_ok-order.order.ok.0))
    c.loop-p-test.false c.loop-p.auto.p-end c.loop-p.invariant.grown.over

pub returns-clause-home : goal.returns-clause-home
returns-clause-home g c =
    no_funnel_at_home (g.T.Turns.corners c.args.board.now) (g.T.Turns.start c.args.board.now) c.args.mesh.now c.args.home
    c.in_ok-order.order.items c.loop-p.p (tree_so_far c.loop-p.growth) c.in_ok-order.ensures c.loop-p.invariant.later
    c.loop-p.invariant.grown.over

pub returns-clause-steps : goal.returns-clause-steps
returns-clause-steps g c =
    let n = length (g.T.Turns.corners c.args.board.now) in
    let count = two_fewer (g.T.Turns.corners c.args.board.now) c.args.mesh.now c.requires.fits in
    let p = c.loop-p.p in
    let within : p ≤ n = omega (arith, c.len-p-end.ensures, c.in_ok-order.order.ok.0, c.in_ok-order.ensures.count, count) in
    omega (arith, c.loop-p.invariant.steps, tree_steps p n (binary_digits n) within)
