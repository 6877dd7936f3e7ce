use Rattle.std.proofs.Common.{◌≡◌, sym, subst, ◌+◌, ◌≤◌, length, arith}
use Rattle.meshes.proofs.Sides.{two_fewer}
use Rattle.meshes.specs.Side.{tri_at, HasCorner}
use Rattle.pair_cut.proofs.TableRows.{corner_of_some, from_vertex, grown_at_home, places_paid, row_of_grown}
use Rattle.pair_cut.proofs.rows.row_from.Goals as goal

pub triangle_at-home-requires : goal.triangle_at-home-requires
triangle_at-home-requires g c = corner_of_some (g.T.Turns.corners c.args.board.now) c.args.mesh.now c.requires.fits c.args.i c.requires.vertex

pub loop-p-init : goal.loop-p-init
loop-p-init g c =
    let corners = g.T.Turns.corners c.args.board.now in
    let tris = c.args.mesh.now in
    let i = c.args.i in
    let home = c.triangle_at-home.ensures in
    let order = c.in_ok-order.order.items in
    let from = from_vertex corners i tris _ order c.requires.fits home.in_list home.corner c.in_ok-order.ensures in
    let count = two_fewer corners tris c.requires.fits in
    record {
      later = omega arith;
      grown = rw c.in_ok-row.ensures.before
          (grown_at_home corners i tris order from c.requires.vertex
          (subst (λ k. HasCorner (tri_at tris k) i) (sym c.in_ok-order.ensures.first) home.corner)
          (c.count.result + 2) (omega (arith, count, c.count.ensures.number)) c.in_ok-row.row.tangents.items
          (omega (arith, c.in_ok-row.ensures.tangents, c.count.ensures.number, c.in_ok-order.ensures.count)));
      steps = omega arith;
    }

pub go_on-requires-clause-start : goal.go_on-requires-clause-start
go_on-requires-clause-start g c =
    let home = c.triangle_at-home.ensures in
    rw c.deref.ensures.value (from_vertex _ c.args.i _ _ _ c.requires.fits home.in_list home.corner c.in_ok-order.ensures)

pub returns-clause-row : goal.returns-clause-row
returns-clause-row g c =
    let home = c.triangle_at-home.ensures in
    let from = from_vertex _ c.args.i _ _ _ c.requires.fits home.in_list home.corner c.in_ok-order.ensures in
    let last : c.loop-p.p ≡ length c.in_ok-order.order.items =
    omega (
      arith,
      c.loop-p-test.false,
      c.loop-p.auto.p-end,
      c.len-p-end.ensures,
      c.in_ok-order.order.ok.0,
      c.in_ok-order.ensures.count,
      home.in_list,
    ) in
    row_of_grown _ _ _ _ from c.requires.vertex _ last _ _ c.loop-p.invariant.grown

pub returns-clause-steps : goal.returns-clause-steps
returns-clause-steps g c =
    let n = length (g.T.Turns.corners c.args.board.now) in
    let count = two_fewer (g.T.Turns.corners c.args.board.now) c.args.mesh.now c.requires.fits in
    let p = c.loop-p.p in
    let within : p ≤ n = omega (arith, c.loop-p.auto.p-end, c.len-p-end.ensures, c.in_ok-order.order.ok.0, c.in_ok-order.ensures.count, count) in
    omega (arith, c.loop-p.invariant.steps, places_paid p n within c.requires.few)
