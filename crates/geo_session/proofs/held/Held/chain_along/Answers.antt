use Rattle.std.proofs.Common.{arith}
use Rattle.dual_tree.proofs.SleeveRoom.{sleeve_few}
use Rattle.geo_session.proofs.WalkedNames.{names_named, names_path}
use Rattle.geo_session.proofs.held.Held.chain_along.Goals as goal

pub with_room-requires : goal.with_room-requires
with_room-requires g c =
    let few = sleeve_few c.self.inside.ring.corners c.self.inside.mesh c.args.sleeve.now c.self.invariant.fits (rw (← c.self.view_is) at c.requires).of_mesh in
    omega (arith, few)

pub put_points-requires-clause-named : goal.put_points-requires-clause-named
put_points-requires-clause-named g c =
    rw c.deref.ensures.value (names_named _ _ _ c.walk.new.out.items c.in_ok-names.names.items c.in_ok-names.ensures.items c.walk.ensures.path)

pub returns-clause-path : goal.returns-clause-path
returns-clause-path g c =
    rw (← c.self.view_is, c.put_points.ensures.points, c.in_ok-points.ensures.items, c.deref.ensures.value)
    (names_path _ _ _ c.walk.new.out.items c.in_ok-names.names.items c.in_ok-names.ensures.items c.walk.ensures.path
    c.self.inside.ring.corners c.args.s.now c.args.t.now c.new-board.ensures.corners c.new-board.ensures.start c.new-board.ensures.goal)

pub returns-clause-few : goal.returns-clause-few
returns-clause-few g c =
    let few = sleeve_few c.self.inside.ring.corners c.self.inside.mesh c.args.sleeve.now c.self.invariant.fits (rw (← c.self.view_is) at c.requires).of_mesh in
    omega (arith, few, c.in_ok-points.ensures.exact)

pub returns-clause-steps : goal.returns-clause-steps
returns-clause-steps g c =
    let few = sleeve_few c.self.inside.ring.corners c.self.inside.mesh c.args.sleeve.now c.self.invariant.fits (rw (← c.self.view_is) at c.requires).of_mesh in
    rw (← c.self.view_is) (omega (arith, few, c.walk.ensures.steps))
