use Rattle.std.proofs.Common.{sym, ap, subst, ◌∙◌, ◌≡◌, ◌+◌, ◌++◌, ◌∷◌, [], None, length, slice_index, slice_index_or, arith}
use Rattle.std.proofs.lemmas.List.{get_or-replicate, length-replicate, length-set}
use Rattle.meshes.proofs.Sides.{two_fewer}
use Rattle.meshes.specs.Side.{HasCorner}
use Rattle.tri_mesh.specs.Outward.{outward_at}
use Rattle.path_tree.proofs.Doors.{corner_place, corner_read, corners_of, read_below}
use Rattle.path_tree.proofs.GrownOver.{HasParent, grown_at_home, home_parent, parents_more, thirds_at_home}
use Rattle.path_tree.proofs.growth.Growth.at_home.Goals as goal
use Rattle.path_tree.specs.Grown.{NamedTree, funnel_at}

pub tri-tri-requires : goal.tri-tri-requires
tri-tri-requires g c = c.requires.outward.in_list 0 c.requires.some

pub loop-corner-init : goal.loop-corner-init
loop-corner-init g c =
    record {
      vertices = ap length c.in_ok-before.ensures ∙ length-replicate (c.count-count.result + 2) None
          ∙ omega (arith, two_fewer _ _ c.requires.fits, c.count-count.ensures.number);
      parents = λ k less. absurd (omega (arith, less));
      steps = omega arith;
    }

pub straight-requires : goal.straight-requires
straight-requires g c =
    read_below _ _ c.requires.fits _ (c.requires.outward.in_list 0 c.requires.some) _ c.tri-tri.ensures _ c.loop-corner-test.true

pub index_mut-requires : goal.index_mut-requires
index_mut-requires g c =
    let below = read_below _ _ c.requires.fits _ (c.requires.outward.in_list 0 c.requires.some) _ c.tri-tri.ensures _ c.loop-corner-test.true in
    omega (arith, below, c.loop-corner.invariant.vertices, c.loop-corner.before.ok.0)

pub loop-corner-preserved : goal.loop-corner-preserved
loop-corner-preserved g c =
    let corners = g.T.Turns.corners c.args.board.now in
    let start = g.T.Turns.start c.args.board.now in
    let tris = c.args.mesh.now in
    let home = (outward_at c.args.order.now 0).tri in
    let in_list = c.requires.outward.in_list 0 c.requires.some in
    let i = slice_index (corners_of c.tri-tri.result) c.loop-corner.corner-index in
    let has = corner_read _ _ c.requires.fits home in_list _ c.tri-tri.ensures _ c.loop-corner-test.true in
    let below = read_below _ _ c.requires.fits home in_list _ c.tri-tri.ensures _ c.loop-corner-test.true in
    record {
      vertices = length-set c.loop-corner.before.items i c.straight.result ∙ c.loop-corner.invariant.vertices;
      parents = parents_more corners start c.loop-corner.before.items (corners_of c.tri-tri.result) c.loop-corner.corner-index c.straight.result
          (omega (arith, below, c.loop-corner.invariant.vertices))
          (home_parent corners start tris home i (g.T.Turns.goal c.args.board.now) c.straight.result c.requires.fits in_list has
          (c.straight.ensures.before tris home c.requires.fits in_list c.requires.home))
          c.loop-corner.invariant.parents;
      steps = omega (arith, c.straight.ensures.steps, c.loop-corner.invariant.steps);
    }

pub returns-clause-grown : goal.returns-clause-grown
returns-clause-grown g c =
    let corners = g.T.Turns.corners c.args.board.now in
    let start = g.T.Turns.start c.args.board.now in
    let tris = c.args.mesh.now in
    let home = (outward_at c.args.order.now 0).tri in
    let in_list = c.requires.outward.in_list 0 c.requires.some in
    let tree : NamedTree = record { before = c.loop-corner.before.items; funnels = c.in_ok-funnels.funnels.items } in
    let none : funnel_at tree home ≡ None =
    ap (λ fs. slice_index_or fs home None) c.in_ok-funnels.ensures
    ∙ get_or-replicate c.count-count.result home None None (omega (arith, in_list, c.count-count.ensures.number)) in
    record {
      over = grown_at_home corners start tris c.args.order.now c.requires tree c.loop-corner.invariant.vertices
          (ap length c.in_ok-funnels.ensures ∙ length-replicate c.count-count.result None ∙ c.count-count.ensures.number)
          (λ i has.
          let (k, less, is) = corner_place c.tri-tri.result i (subst (λ t. HasCorner t i) (sym c.tri-tri.ensures) has) in
          subst (HasParent corners start c.loop-corner.before.items) is
          (c.loop-corner.invariant.parents k (omega (arith, less, c.loop-corner-test.false)))) none;
      thirds = thirds_at_home corners start tris c.args.order.now c.requires tree none 0 _
          (c.push_reserved.ensures.items ∙ ap (λ l. l ++ 0 ∷ []) c.in_ok-thirds.ensures.items);
      room = omega (arith, c.push_reserved.ensures.capacity, c.in_ok-thirds.ensures.exact, c.count-count.ensures.number, c.requires.outward.count);
    }
