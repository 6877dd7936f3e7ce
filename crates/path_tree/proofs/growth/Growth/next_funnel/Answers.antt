use Rattle.std.proofs.Common.{arith}
use Rattle.std.proofs.lemmas.Result.{IfOk-weaker}
use Rattle.meshes.proofs.Sides.{two_fewer}
use Rattle.path_tree.proofs.NextFunnels.{ends_at, funnel_from_home, later_digits}
use Rattle.path_tree.proofs.TreeFunnels.{none_at_home, some_later, third_place}
use Rattle.path_tree.proofs.growth.Growth.next_funnel.Goals as goal
use Rattle.path_tree.specs.Growing.{tree_so_far}

pub funnel_from-requires-clause-inner : goal.funnel_from-requires-clause-inner
funnel_from-requires-clause-inner g c =
    (some_later _ _ _ _ c.requires.from c.args.visit.p c.requires.later c.requires.within (tree_so_far c.args.self.now) c.requires.grown.over _
    c.index.ensures _ c.in-Some.is).0

pub funnel_from-requires-clause-funnel : goal.funnel_from-requires-clause-funnel
funnel_from-requires-clause-funnel g c =
    (some_later _ _ _ _ c.requires.from c.args.visit.p c.requires.later c.requires.within (tree_so_far c.args.self.now) c.requires.grown.over _
    c.index.ensures _ c.in-Some.is).1

pub funnel_from-requires-clause-place : goal.funnel_from-requires-clause-place
funnel_from-requires-clause-place g c =
    third_place _ _ _ _ c.requires.from c.args.visit.p c.requires.later c.requires.within (tree_so_far c.args.self.now) c.requires.grown.over _
    c.index.ensures _ c.requires.grown.thirds _ c.in-Some.is _ c.index-place.ensures

pub first-requires-clause-count : goal.first-requires-clause-count
first-requires-clause-count g c = omega (arith, two_fewer _ _ c.requires.from.fits, c.count.ensures.number)

pub first-requires-clause-left : goal.first-requires-clause-left
first-requires-clause-left g c =
    let ends = ends_at _ _ _ _ c.requires.from c.args.visit.p c.requires.later c.requires.within in
    omega (arith, ends.0, c.door_of-door.ensures.left, two_fewer _ _ c.requires.from.fits, c.count.ensures.number)

pub first-requires-clause-right : goal.first-requires-clause-right
first-requires-clause-right g c =
    let ends = ends_at _ _ _ _ c.requires.from c.args.visit.p c.requires.later c.requires.within in
    omega (arith, ends.1, c.door_of-door.ensures.right, two_fewer _ _ c.requires.from.fits, c.count.ensures.number)

pub returns-in-None-clause-funnel : goal.returns-in-None-clause-funnel
returns-in-None-clause-funnel g c =
    let home = none_at_home _ _ _ _ c.requires.from c.args.visit.p c.requires.later c.requires.within (tree_so_far c.args.self.now)
    c.requires.grown.over _ c.index.ensures c.in-None.is in
    IfOk-weaker c.first.result _ _
    (λ f first. funnel_from_home _ _ _ _ c.requires.from c.args.visit.p c.requires.later c.requires.within home _ _ f c.door_of-door.ensures.left
    c.door_of-door.ensures.right first)
    c.first.ensures.funnel

pub returns-in-None-clause-steps : goal.returns-in-None-clause-steps
returns-in-None-clause-steps g c =
    omega (arith, c.first.ensures.steps, later_digits _ _ _ _ c.requires.from c.args.visit.p c.requires.later c.requires.within)
