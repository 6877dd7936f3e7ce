use Rattle.std.proofs.Common.{arith}
use Rattle.std.proofs.lemmas.Result.{IfOk-weaker}
use Rattle.meshes.proofs.Sides.{two_fewer}
use Rattle.path_tree.proofs.NextFunnels.{toward_below, apex_in, few_digits, few_points, funnel_on_left, funnel_on_right}
use Rattle.path_tree.specs.Entered.{toward}
use Rattle.path_tree.proofs.onward.funnel_from.Goals as goal

pub door_of-requires-clause-in_list : goal.door_of-requires-clause-in_list
door_of-requires-clause-in_list g c = c.requires.start.outward.in_list c.args.visit.p c.requires.within

pub door_of-requires-clause-side : goal.door_of-requires-clause-side
door_of-requires-clause-side g c = (c.requires.start.outward.joined c.args.visit.p c.requires.later c.requires.within).side

pub bounds-order-toward : goal.bounds-order-toward
bounds-order-toward g c = toward_below _ _ _ _ c.requires.start c.args.visit.p c.requires.later c.requires.within

pub door_of-third-requires-clause-side : goal.door_of-third-requires-clause-side
door_of-third-requires-clause-side g c =
    let below = toward_below _ _ _ _ c.requires.start c.args.visit.p c.requires.later c.requires.within in
    (c.requires.start.outward.joined (toward c.args.visit.order.now c.args.visit.p) c.requires.inner below).side

pub to_right-requires-clause-apex : goal.to_right-requires-clause-apex
to_right-requires-clause-apex g c = apex_in _ _ _ _ c.requires.start _ _ c.requires.funnel

pub to_right-requires-clause-room : goal.to_right-requires-clause-room
to_right-requires-clause-room g c =
    let below = toward_below _ _ _ _ c.requires.start c.args.visit.p c.requires.later c.requires.within in
    let few = few_points _ _ _ _ c.requires.start _ _ below c.requires.funnel in
    omega (arith, few, two_fewer _ _ c.requires.start.fits, c.count-count.ensures.few)

pub to_left-requires-clause-apex : goal.to_left-requires-clause-apex
to_left-requires-clause-apex g c = apex_in _ _ _ _ c.requires.start _ _ c.requires.funnel

pub to_left-requires-clause-room : goal.to_left-requires-clause-room
to_left-requires-clause-room g c =
    let below = toward_below _ _ _ _ c.requires.start c.args.visit.p c.requires.later c.requires.within in
    let few = few_points _ _ _ _ c.requires.start _ _ below c.requires.funnel in
    omega (arith, few, two_fewer _ _ c.requires.start.fits, c.count-count.ensures.few)

pub returns-then-door_of-third-clause-funnel : goal.returns-then-door_of-third-clause-funnel
returns-then-door_of-third-clause-funnel g c =
    IfOk-weaker c.to_right.result _ _
    (λ f next. funnel_on_right _ _ _ _ c.requires.start c.args.visit.p c.requires.later c.requires.within c.requires.inner _ c.requires.funnel
    c.args.place c.requires.place _ _ c.door_of.ensures.right c.door_of-third.ensures.third f c.if-door_of-third.true
    (λ beyond reached side. next _ _ _ _ _ _ _ _ c.requires.start.fits beyond c.requires.funnel reached side))
    c.to_right.ensures.funnel

pub returns-then-door_of-third-clause-steps : goal.returns-then-door_of-third-clause-steps
returns-then-door_of-third-clause-steps g c =
    let below = toward_below _ _ _ _ c.requires.start c.args.visit.p c.requires.later c.requires.within in
    omega (arith, c.to_right.ensures.steps, (few_digits _ _ _ _ c.requires.start _ _ below c.requires.funnel).1)

pub returns-else-door_of-third-clause-funnel : goal.returns-else-door_of-third-clause-funnel
returns-else-door_of-third-clause-funnel g c =
    IfOk-weaker c.to_left.result _ _
    (λ f next. funnel_on_left _ _ _ _ c.requires.start c.args.visit.p c.requires.later c.requires.within c.requires.inner _ c.requires.funnel
    c.args.place c.requires.place _ _ c.door_of.ensures.right c.door_of-third.ensures.third f c.if-door_of-third.false
    (λ beyond reached side. next _ _ _ _ _ _ _ _ c.requires.start.fits beyond c.requires.funnel reached side))
    c.to_left.ensures.funnel

pub returns-else-door_of-third-clause-steps : goal.returns-else-door_of-third-clause-steps
returns-else-door_of-third-clause-steps g c =
    let below = toward_below _ _ _ _ c.requires.start c.args.visit.p c.requires.later c.requires.within in
    omega (arith, c.to_left.ensures.steps, (few_digits _ _ _ _ c.requires.start _ _ below c.requires.funnel).1)
