use Rattle.std.proofs.Common.{arith, length, refl}
use Rattle.geo_session.proofs.HullSteps.{chains_below, hull_paid}
use Rattle.geo_session.proofs.HullTable.{span_table}
use Rattle.geo_session.proofs.Hulls.{hull_within, pairs_few}
use Rattle.geo_session.proofs.Within.{named_given}
use Rattle.geo_session.specs.Told.{outside}
use Rattle.geo_session.proofs.held.Held.hull.Goals as goal

pub returns-in-Err-clause-told : goal.returns-in-Err-clause-told
returns-in-Err-clause-told g c =
    let names = rw c.in-Err.is at c.in_ok-span.ensures.numbered in
    outside c.in-Err.bad (named_given c.args.self.now.ring c.args.points.now c.in-Err.bad names) refl

pub sides-requires : goal.sides-requires
sides-requires g c =
    let is = rw (c.in-Ok.is, ← c.self.view_is) at c.in_ok-span.ensures.numbered in
    span_table c.self.inside.ring.corners c.self.inside.mesh c.args.points.now c.in-Ok.span is

pub told_sides-requires : goal.told_sides-requires
told_sides-requires g c =
    let is = rw (c.in-Ok.is, ← c.self.view_is) at c.in_ok-span.ensures.numbered in
    rw (← c.self.view_is, c.deref.ensures.value) (c.args.points.now, (is, c.in_ok-pairs.ensures.sides))

pub of-requires : goal.of-requires
of-requires g c =
    let is = rw (c.in-Ok.is, ← c.self.view_is) at c.in_ok-span.ensures.numbered in
    let told = rw (c.deref.ensures.value, ← c.self.view_is) at c.in_ok-sides.ensures.told in
    rw told.count (pairs_few c.self.inside.ring c.self.inside.mesh c.args.points.now c.in-Ok.span is c.in_ok-pairs.pairs.items c.in_ok-pairs.ensures.sides)

pub returns-clause-told : goal.returns-clause-told
returns-clause-told g c =
    let is = rw (c.in-Ok.is, ← c.self.view_is) at c.in_ok-span.ensures.numbered in
    let told = rw (c.deref.ensures.value, ← c.self.view_is) at c.in_ok-sides.ensures.told in
    rw (← c.self.view_is, c.of.ensures)
    (hull_within c.self.inside.ring c.self.inside.mesh c.args.points.now c.in-Ok.span is c.in_ok-pairs.pairs.items c.in_ok-pairs.ensures.sides c.args.version
    c.in_ok-sides.sides.items told c.self.invariant.fits)

pub returns-in_err-span-clause-steps : goal.returns-in_err-span-clause-steps
returns-in_err-span-clause-steps g c =
    hull_paid c.args.version _ c.span.new.steps c.span.new.steps _ _ (length c.args.points.now) 0 0 c.span.ensures.steps (omega arith) (omega arith) (omega arith)
    (omega arith)

pub returns-in_err-pairs-clause-steps : goal.returns-in_err-pairs-clause-steps
returns-in_err-pairs-clause-steps g c =
    let is = rw (c.in-Ok.is, ← c.self.view_is) at c.in_ok-span.ensures.numbered in
    let short = chains_below c.self.inside.ring.corners c.self.inside.mesh c.args.points.now c.in-Ok.span is in
    hull_paid c.args.version _ c.span.new.steps c.sides.new.steps _ _ (length c.args.points.now) c.in-Ok.span.chains.count 0 c.span.ensures.steps
    (c.sides.ensures.steps 15 short) (omega arith) (omega (arith, is.table.count, is.no_more)) (omega arith)

pub returns-in_err-sides-clause-steps : goal.returns-in_err-sides-clause-steps
returns-in_err-sides-clause-steps g c =
    let is = rw (c.in-Ok.is, ← c.self.view_is) at c.in_ok-span.ensures.numbered in
    let short = chains_below c.self.inside.ring.corners c.self.inside.mesh c.args.points.now c.in-Ok.span is in
    let few = rw (← c.deref.ensures.value) at c.in_ok-pairs.ensures.few in
    hull_paid c.args.version _ c.span.new.steps c.sides.new.steps _ _ (length c.args.points.now) c.in-Ok.span.chains.count (length c.deref.result.now)
    c.span.ensures.steps (c.sides.ensures.steps 15 short) c.told_sides.ensures.steps (omega (arith, is.table.count, is.no_more))
    (omega (arith, few, is.table.count, is.no_more))

pub returns-clause-steps : goal.returns-clause-steps
returns-clause-steps g c =
    let is = rw (c.in-Ok.is, ← c.self.view_is) at c.in_ok-span.ensures.numbered in
    let short = chains_below c.self.inside.ring.corners c.self.inside.mesh c.args.points.now c.in-Ok.span is in
    let few = rw (← c.deref.ensures.value) at c.in_ok-pairs.ensures.few in
    hull_paid c.args.version _ c.span.new.steps c.sides.new.steps _ _ (length c.args.points.now) c.in-Ok.span.chains.count (length c.deref.result.now)
    c.span.ensures.steps (c.sides.ensures.steps 15 short) c.told_sides.ensures.steps (omega (arith, is.table.count, is.no_more))
    (omega (arith, few, is.table.count, is.no_more))
