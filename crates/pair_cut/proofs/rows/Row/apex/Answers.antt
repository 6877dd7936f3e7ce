use Rattle.std.proofs.Common.{sym, ◌∙◌, arith}
use Rattle.pair_cut.proofs.DoorFunnels.{apex_from_home, apex_on_left, apex_on_right}
use Rattle.pair_cut.proofs.rows.Row.apex.Goals as goal

pub returns-then-toward-eq0 : goal.returns-then-toward-eq0
returns-then-toward-eq0 c = λ corners from below home grown.
    apex_from_home corners c.args.i c.args.visit.mesh.now c.args.visit.order.now from below home c.args.visit.p c.requires.later c.requires.within
    c.if-toward-eq0.true

pub returns-then-door_of : goal.returns-then-door_of
returns-then-door_of c = λ corners from below home grown.
    apex_on_right corners c.args.i c.args.visit.mesh.now c.args.visit.order.now from below home c.args.visit.p c.requires.later c.requires.within
    (omega (arith, c.if-toward-eq0.false)) _ _ grown c.index-tangent.result.now c.index-tangent.ensures
    (sym c.door_of.ensures.right ∙ c.if-door_of.true ∙ c.door_of-2.ensures.third)

pub returns-else-door_of : goal.returns-else-door_of
returns-else-door_of c = λ corners from below home grown.
    apex_on_left corners c.args.i c.args.visit.mesh.now c.args.visit.order.now from below home c.args.visit.p c.requires.later c.requires.within
    (omega (arith, c.if-toward-eq0.false)) _ _ grown c.index-tangent.result.now c.index-tangent.ensures
    (λ same. c.if-door_of.false (c.door_of.ensures.right ∙ same ∙ sym c.door_of-2.ensures.third))
