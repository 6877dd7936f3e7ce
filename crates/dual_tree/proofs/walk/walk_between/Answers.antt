use Rattle.std.proofs.Common.{◌≡◌, ◌∷◌, ◌++◌, sym, subst, reverse, arith}
use Rattle.meshes.specs.Side.{IsWalkBetween}
use Rattle.tri_mesh.specs.Outward.{at_place}
use Rattle.dual_tree.proofs.TreeWalks.{if_ok_map}
use Rattle.dual_tree.proofs.Ways.{ways_meet, ways_nearer}
use Rattle.dual_tree.proofs.walk.walk_between.Goals as goal

pub loop-front-preserved : goal.loop-front-preserved
loop-front-preserved c =
    let order = c.rooted-rooted.result.order.now in
    ways_nearer c.args.mesh.now 0 order c.rooted-rooted.ensures.outward c.args.from c.args.to c.loop-front.front c.loop-front.back
    c.approach.new.front c.approach.new.back c.in_ok-approach.ensures c.loop-front.invariant

pub returns : goal.returns
returns c =
    let tris = c.args.mesh.now in
    let order = c.rooted-rooted.result.order.now in
    let front = c.loop-front.front in
    let back = c.loop-front.back in
    let met : front.place ≡ back.place = omega arith in
    let walk = ways_meet tris 0 order c.rooted-rooted.ensures.outward c.args.from c.args.to
    c.requires.from front.place back.place front.left.items (reverse back.left.items) met c.loop-front.invariant in
    if_ok_map c.joined.result (λ walk. walk.items ≡ front.left.items ++ at_place order front.place ∷ reverse back.left.items)
    (λ walk. IsWalkBetween tris c.args.from c.args.to walk.items) c.joined.ensures
    (λ found is. subst (IsWalkBetween tris c.args.from c.args.to) (sym is) walk)
