use Rattle.std.proofs.Common.{◌<◌, sym, ap, subst, ◌∙◌, length, arith}
use Rattle.std.proofs.lemmas.Bool.{false≢true}
use Rattle.meshes.proofs.Sides.{two_fewer}
use Rattle.path_tree.proofs.GrownOver.{entered_of_read, home_of_read}
use Rattle.path_tree.proofs.TreeSteps.{reach_paid}
use Rattle.path_tree.proofs.GrownPaths.{kept_goal, kept_of_names}
use Rattle.path_tree.specs.Grown.{IsFromNamed}
use Rattle.path_tree.proofs.tree.PathTree.reach.Goals as goal

pub returns-in_default-clause-before : goal.returns-in_default-clause-before
returns-in_default-clause-before g c =
    let home = home_of_read (g.T.Turns.corners c.args.board.now) (g.T.Turns.start c.args.board.now) c.args.mesh.now c.args.self.now
    c.requires.grown c.self.inside.funnels.items (ap (λ tree. tree.funnels) c.self.view_is) c.args.tri c.requires.in_list
    c.index.result.now c.index.ensures c.in_default.not-Some in
    c.straight.ensures.before c.args.mesh.now c.args.tri c.requires.fits c.requires.in_list home c.requires.goal

pub returns-in_default-clause-steps : goal.returns-in_default-clause-steps
returns-in_default-clause-steps g c =
    let corners = g.T.Turns.corners c.args.board.now in
    let some : 0 < length corners = omega (arith, two_fewer corners c.args.mesh.now c.requires.fits) in
    omega (arith, c.straight.ensures.steps, reach_paid 0 (length corners) some (omega arith))

pub near_goal-near-requires-clause-entered : goal.near_goal-near-requires-clause-entered
near_goal-near-requires-clause-entered g c =
    entered_of_read (g.T.Turns.corners c.args.board.now) (g.T.Turns.start c.args.board.now) c.args.mesh.now c.args.self.now
    c.requires.grown c.self.inside.funnels.items (ap (λ tree. tree.funnels) c.self.view_is) c.args.tri c.requires.in_list
    c.index.result.now c.index.ensures c.in-Some.funnel c.in-Some.is

pub same-requires-clause-a : goal.same-requires-clause-a
same-requires-clause-a g c =
    let kept = kept_of_names (g.T.Turns.corners c.args.board.now) (g.T.Turns.start c.args.board.now) c.args.mesh.now c.args.self.now
    c.requires.grown c.near_goal-near.result c.near_goal-near.ensures.near.0 c.near_goal-near.ensures.near.1 in
    kept.1

pub before-requires : goal.before-requires
before-requires g c =
    let kept = kept_of_names (g.T.Turns.corners c.args.board.now) (g.T.Turns.start c.args.board.now) c.args.mesh.now c.args.self.now
    c.requires.grown c.near_goal-near.result c.near_goal-near.ensures.near.0 c.near_goal-near.ensures.near.1 in
    record { kept = kept.0 }

pub returns-then-same-clause-before : goal.returns-then-same-clause-before
returns-then-same-clause-before g c =
    let corners = g.T.Turns.corners c.args.board.now in
    let start = g.T.Turns.start c.args.board.now in
    let there = kept_goal corners start c.args.mesh.now c.args.self.now c.requires.grown c.near_goal-near.result
    c.near_goal-near.ensures.near.0 (g.T.Turns.goal c.args.board.now) c.near_goal-near.ensures.near.1
    (c.same.ensures.same.0 c.if-same.true) in
    subst (λ p. IsFromNamed corners start p c.before-then-same.result) there
    (c.before-then-same.ensures.before corners start c.args.mesh.now c.requires.grown)

pub returns-else-same-clause-before : goal.returns-else-same-clause-before
returns-else-same-clause-before g c =
    let kept = kept_of_names (g.T.Turns.corners c.args.board.now) (g.T.Turns.start c.args.board.now) c.args.mesh.now c.args.self.now
    c.requires.grown c.near_goal-near.result c.near_goal-near.ensures.near.0 c.near_goal-near.ensures.near.1 in (
      c.near_goal-near.ensures.near.0,
      c.near_goal-near.ensures.near.1,
      c.near_goal-near.ensures.near.2
          (λ same. false≢true (sym c.if-same.false ∙ c.same.ensures.same.1 (kept.2 (g.T.Turns.goal c.args.board.now) ∙ same))),
    )
