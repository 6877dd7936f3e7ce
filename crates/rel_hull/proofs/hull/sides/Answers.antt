use Rattle.std.proofs.Common.{arith, length, ◌+◌}
use Rattle.std.proofs.lemmas.Result.{IfOk-weaker}
use Rattle.rel_hull.proofs.Costs.{sides_paid}
use Rattle.rel_hull.proofs.TableSides.{are_sides}
use Rattle.rel_hull.proofs.hull.sides.Goals as goal

pub returns-clause-sides : goal.returns-clause-sides
returns-clause-sides g c =
    let are = rw (← c.deref.ensures.value) at c.in_ok-outer.ensures.outer in
    IfOk-weaker c.sides_among.result _ _ (λ pairs. are_sides c.args.ring.now.corners c.args.chains.now c.requires c.deref.result.now are pairs.items)
    c.sides_among.ensures.sides

pub returns-clause-few : goal.returns-clause-few
returns-clause-few g c =
    let few = rw (← c.deref.ensures.value) at c.in_ok-outer.ensures.few in
    IfOk-weaker c.sides_among.result _ _ (λ pairs within. omega (arith, within, few)) c.sides_among.ensures.few

pub returns-clause-steps : goal.returns-clause-steps
returns-clause-steps g c d short =
    let few = rw (← c.deref.ensures.value) at c.in_ok-outer.ensures.few in
    omega (arith, sides_paid _ _ _ _ (length c.deref.result.now) (d + 8) c.outer_points.ensures.steps (c.sides_among.ensures.steps d short) few)
