use Rattle.std.proofs.Common.{sym, subst, ◌<◌, length, arith}
use Rattle.rings.specs.Ring.{vertex}
use Rattle.path_tree.proofs.NextFunnels.{third_below}
use Rattle.path_tree.specs.Listed.{listed_points}
use Rattle.pair_cut.proofs.DoorFunnels.{climbs}
use Rattle.pair_cut.proofs.TableRows.{grown_more}
use Rattle.pair_cut.proofs.rows.Row.go_on.Goals as goal
use Rattle.pair_cut.specs.Climbs.{AreClimbs, IsTangent}

pub tangent_of-tangent-requires-clause-third : goal.tangent_of-tangent-requires-clause-third
tangent_of-tangent-requires-clause-third g c =
    let corners = g.T.Turns.corners c.args.board.now in
    subst (λ m. m < length corners) (sym c.door_of-door.ensures.third)
    (third_below corners (vertex corners c.args.i) c.args.visit.mesh.now c.args.visit.order.now c.requires.start c.args.visit.p c.requires.later
    c.requires.within)

pub tangent_of-tangent-requires-clause-climbs : goal.tangent_of-tangent-requires-clause-climbs
tangent_of-tangent-requires-clause-climbs g c =
    let corners = g.T.Turns.corners c.args.board.now in
    let grown = c.requires.grown in
    let apex = c.apex-apex.ensures corners c.requires.start c.requires.vertex c.requires.home grown in
    let up = climbs corners c.args.i c.args.visit.mesh.now c.args.visit.order.now c.requires.start c.requires.vertex c.requires.home c.args.visit.p
    c.requires.later c.requires.within apex.f apex.has c.args.self.now.before.items grown.vertices grown.told c.apex-apex.result apex.is in
    rw (c.door_of-door.ensures.left, c.door_of-door.ensures.right, c.deref.ensures.value) (_, _, up)

pub index_mut-requires : goal.index_mut-requires
index_mut-requires g c =
    let corners = g.T.Turns.corners c.args.board.now in
    let below = third_below corners (vertex corners c.args.i) c.args.visit.mesh.now c.args.visit.order.now c.requires.start c.args.visit.p c.requires.later
    c.requires.within in
    omega (arith, below, c.door_of-door.ensures.third, c.requires.grown.vertices, c.args.self.now.before.ok.0)

pub returns-clause-grown : goal.returns-clause-grown
returns-clause-grown g c =
    let corners = g.T.Turns.corners c.args.board.now in
    let grown = c.requires.grown in
    let apex = c.apex-apex.ensures corners c.requires.start c.requires.vertex c.requires.home grown in
    let ns = listed_points corners (vertex corners c.args.i) apex.f.list in
    let up = climbs corners c.args.i c.args.visit.mesh.now c.args.visit.order.now c.requires.start c.requires.vertex c.requires.home c.args.visit.p
    c.requires.later c.requires.within apex.f apex.has c.args.self.now.before.items grown.vertices grown.told c.apex-apex.result apex.is in
    let there : AreClimbs corners c.deref.result.now c.door_of-door.result.left c.door_of-door.result.right c.apex-apex.result ns apex.f.apex =
    rw (c.door_of-door.ensures.left, c.door_of-door.ensures.right, c.deref.ensures.value) up in
    grown_more corners c.args.i c.args.visit.mesh.now c.args.visit.order.now c.requires.start c.args.visit.p c.requires.later c.requires.within
    c.args.self.now.before.items c.args.self.now.tangents.items grown c.tangent_of-tangent.result
    (record {
      f = apex.f;
      has = apex.has;
      tangent = subst (λ m. IsTangent corners ns apex.f.apex (vertex corners m) c.tangent_of-tangent.result) c.door_of-door.ensures.third
          (c.tangent_of-tangent.ensures.tangent ns apex.f.apex there);
    })
    c.door_of-door.result.third c.door_of-door.ensures.third
