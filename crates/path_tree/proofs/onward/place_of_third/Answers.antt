use Rattle.std.proofs.Common.{◌≡◌, sym, subst, ◌+◌, ◌<◌, length, arith}
use Rattle.plane.specs.Point.{whole}
use Rattle.rings.proofs.Vertices.{vertex_in_range}
use Rattle.rings.specs.Ring.{origin, vertex}
use Rattle.meshes.proofs.Sides.{two_fewer}
use Rattle.funnels.specs.Funnel.{IsReachedFrom}
use Rattle.path_tree.proofs.NextFunnels.{third_below, apex_in, few_digits}
use Rattle.path_tree.specs.Listed.{AreNumbers, listed_points}
use Rattle.path_tree.proofs.TreeSteps.{search_steps}
use Rattle.path_tree.proofs.onward.place_of_third.Goals as goal

pub place-requires-clause-count : goal.place-requires-clause-count
place-requires-clause-count g c =
    omega (arith, two_fewer _ _ c.requires.start.fits, c.count.ensures.number)

pub place-requires-clause-some : goal.place-requires-clause-some
place-requires-clause-some g c =
    omega (arith, apex_in _ _ _ _ c.requires.start _ _ c.requires.funnel)

pub place-requires-clause-numbers : goal.place-requires-clause-numbers
place-requires-clause-numbers g c =
    let corners = g.T.Turns.corners c.args.board.now in
    let count : c.count.result + 2 ≡ length corners =
    omega (arith, two_fewer corners c.args.visit.mesh.now c.requires.start.fits, c.count.ensures.number) in
    subst (λ n. AreNumbers n c.args.funnel.now.list) (sym count) c.requires.funnel.numbers

pub place-requires-clause-y_named : goal.place-requires-clause-y_named
place-requires-clause-y_named g c =
    let corners = g.T.Turns.corners c.args.board.now in
    subst (λ m. m < length corners) (sym c.door_of-third.ensures.third)
    (third_below _ _ _ _ c.requires.start c.args.visit.p c.requires.later c.requires.within)

pub returns-clause-reached : goal.returns-clause-reached
returns-clause-reached g c =
    let corners = g.T.Turns.corners c.args.board.now in
    let start = g.T.Turns.start c.args.board.now in
    let f = c.args.funnel.now in
    let m = c.door_of-third.result.third in
    let third_is = c.door_of-third.ensures.third in
    let below = third_below _ _ _ _ c.requires.start c.args.visit.p c.requires.later c.requires.within in
    subst (λ k. IsReachedFrom (listed_points corners start f.list) f.apex c.place.result (whole (vertex corners k))) third_is
    (subst (λ y. IsReachedFrom (listed_points corners start f.list) f.apex c.place.result (whole y))
    (sym (vertex_in_range corners m origin (subst (λ k. k < length corners) (sym third_is) below)))
    c.place.ensures.reached)

pub returns-clause-steps : goal.returns-clause-steps
returns-clause-steps g c =
    let few = few_digits _ _ _ _ c.requires.start c.args.visit.p _ c.requires.within c.requires.funnel in
    omega (arith, c.place.ensures.steps, search_steps _ _ few.0)
