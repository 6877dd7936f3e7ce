use Rattle.std.proofs.Common.{◌≡◌, sym, ap, subst, ◌∙◌, ◌+◌, Some, length, slice_index, arith}
use Rattle.std.proofs.lemmas.List.{length-map}
use Rattle.rings.specs.Ring.{vertex}
use Rattle.meshes.proofs.Sides.{two_fewer}
use Rattle.path_tree.proofs.NextFunnels.{beyond_at, third_below, few_digits, later_digits}
use Rattle.path_tree.specs.Listed.{point_of}
use Rattle.path_tree.proofs.GrownOver.{grown_more, thirds_more, third_named}
use Rattle.path_tree.proofs.TreeSteps.{triangle_steps}
use Rattle.path_tree.proofs.growth.Growth.go_on.Goals as goal
use Rattle.path_tree.specs.Grown.{IsFromNamed}
use Rattle.path_tree.specs.Growing.{tree_so_far}

pub returns-in_err-funnel-clause-steps : goal.returns-in_err-funnel-clause-steps
returns-in_err-funnel-clause-steps g c =
    let three = later_digits _ _ _ _ c.requires.from c.args.visit.p c.requires.later c.requires.within in
    omega (arith, c.next_funnel.ensures.steps, triangle_steps _ three)

pub index_mut-requires : goal.index_mut-requires
index_mut-requires g c =
    let below = third_below _ _ _ _ c.requires.from c.args.visit.p c.requires.later c.requires.within in
    omega (arith, below, c.door_of.ensures.third, c.requires.grown.over.vertices, c.args.self.now.before.ok.0)

pub index_mut-requires-2 : goal.index_mut-requires-2
index_mut-requires-2 g c =
    omega (
      arith,
      c.requires.from.outward.in_list c.args.visit.p c.requires.within,
      c.requires.grown.over.triangles,
      c.args.self.now.funnels.ok.0,
    )

pub returns-clause-grown : goal.returns-clause-grown
returns-clause-grown g c =
    let corners = g.T.Turns.corners c.args.board.now in
    let start = g.T.Turns.start c.args.board.now in
    let tris = c.args.visit.mesh.now in
    let order = c.args.visit.order.now in
    let from = c.requires.from in
    let p = c.args.visit.p in
    let f = c.in_ok-funnel.funnel in
    let w = c.in_ok-funnel.ensures.funnel in
    let reached = c.place_of_third-place.ensures.reached in
    let count : c.count.result + 2 ≡ length corners = omega (arith, two_fewer corners tris from.fits, c.count.ensures.number) in
    let number : c.number.result ≡ slice_index f.list c.place_of_third-place.result =
    c.number.ensures.number ∙ ap (slice_index f.list) (omega arith) in
    let named = third_named corners start tris _ _ p from.fits f w _ (omega (arith, reached.within, length-map f.list (point_of corners start)))
    (c.count.result + 2) c.number.result c.spot-near.result count number c.spot-near.ensures.corner c.spot-near.ensures.start _ _
    (beyond_at _ _ _ _ from p c.requires.later c.requires.within) reached in
    let grown = c.requires.grown in
    record {
      over = grown_more corners start tris order from p c.requires.later c.requires.within (tree_so_far c.args.self.now) grown.over c.door_of.result.third
          (Some c.spot-near.result) f c.door_of.ensures.third
          (subst (λ m. IsFromNamed corners start (vertex corners m) (Some c.spot-near.result)) (sym c.door_of.ensures.third) named) w;
      thirds = rw c.push_reserved.ensures.items
          (thirds_more corners start tris order from p c.requires.later c.requires.within (tree_so_far c.args.self.now) grown.over c.args.self.now.thirds.items grown.thirds
          c.door_of.result.third (Some c.spot-near.result) f c.place_of_third-place.result reached);
      room = omega (arith, grown.room, c.push_reserved.ensures.capacity);
    }

pub returns-clause-steps : goal.returns-clause-steps
returns-clause-steps g c =
    let three = later_digits _ _ _ _ c.requires.from c.args.visit.p c.requires.later c.requires.within in
    let few = few_digits _ _ _ _ c.requires.from c.args.visit.p _ c.requires.within c.in_ok-funnel.ensures.funnel in
    omega (
      arith,
      c.next_funnel.ensures.steps,
      c.place_of_third-place.ensures.steps,
      c.number.ensures.steps,
      triangle_steps _ three,
      few.0,
    )
