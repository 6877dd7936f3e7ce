use Rattle.std.proofs.Common.{subst, length, arith}
use Rattle.meshes.proofs.Sides.{two_fewer}
use Rattle.path_tree.specs.Listed.{AreNumbers}
use Rattle.path_tree.proofs.GrownOver.{entered_few, entered_some, near_is}
use Rattle.path_tree.proofs.TreeSteps.{reach_paid}
use Rattle.path_tree.proofs.tree.near_goal.Goals as goal

pub place-place-requires-clause-count : goal.place-place-requires-clause-count
place-place-requires-clause-count g c =
    omega (arith, c.count-n.ensures.number, two_fewer (g.T.Turns.corners c.args.board.now) c.args.mesh.now c.requires.fits)

pub place-place-requires-clause-some : goal.place-place-requires-clause-some
place-place-requires-clause-some g c =
    entered_some (g.T.Turns.corners c.args.board.now) (g.T.Turns.start c.args.board.now) c.args.mesh.now c.args.tri c.args.funnel.now
    c.requires.entered

pub place-place-requires-clause-numbers : goal.place-place-requires-clause-numbers
place-place-requires-clause-numbers g c =
    subst (λ n. AreNumbers n c.args.funnel.now.list)
    (omega (arith, c.count-n.ensures.number, two_fewer (g.T.Turns.corners c.args.board.now) c.args.mesh.now c.requires.fits))
    c.requires.entered.funnel.numbers

pub returns-clause-near : goal.returns-clause-near
returns-clause-near g c =
    near_is (g.T.Turns.corners c.args.board.now) (g.T.Turns.start c.args.board.now) c.args.mesh.now c.args.tri c.args.funnel.now
    c.requires.entered c.requires.fits c.place-place.result (g.T.Turns.goal c.args.board.now) c.place-place.ensures.reached c.requires.goal
    c.count-n.result c.number.result c.spot.result c.count-n.ensures.number c.number.ensures.number c.spot.ensures.corner
    c.spot.ensures.start

pub returns-clause-steps : goal.returns-clause-steps
returns-clause-steps g c =
    let few = entered_few (g.T.Turns.corners c.args.board.now) (g.T.Turns.start c.args.board.now) c.args.mesh.now c.args.tri c.args.funnel.now
    c.requires.entered in
    let paid = reach_paid (length c.args.funnel.now.list) (length (g.T.Turns.corners c.args.board.now)) (omega arith) (omega arith) in
    omega (arith, c.place-place.ensures.steps, c.number.ensures.steps, paid)
