use Rattle.std.proofs.Common.{◌∙◌, ap, arith, length, refl, slice_index}
use Rattle.std.proofs.lemmas.List.{length-map}
use Rattle.geo_session.proofs.HullSteps.{chains_below, closed_paid}
use Rattle.geo_session.proofs.HullTable.{span_table}
use Rattle.geo_session.proofs.RoundPlaces.{place_below, places_few, round_numbered, round_within}
use Rattle.geo_session.proofs.Within.{named_given}
use Rattle.geo_session.specs.Told.{outside}
use Rattle.geo_session.proofs.held.Held.round.Goals as goal

pub returns-in-Err-clause-told : goal.returns-in-Err-clause-told
returns-in-Err-clause-told g c =
    let names = rw c.in-Err.is at c.in_ok-span.ensures.numbered in
    outside c.in-Err.bad (named_given c.args.self.now.ring c.args.points.now c.in-Err.bad names) refl

pub round-requires : goal.round-requires
round-requires g c =
    let is = rw (c.in-Ok.is, ← c.self.view_is) at c.in_ok-span.ensures.numbered in
    span_table c.self.inside.ring.corners c.self.inside.mesh c.args.points.now c.in-Ok.span is

pub at_places-requires : goal.at_places-requires
at_places-requires g c =
    let is = rw (c.in-Ok.is, ← c.self.view_is) at c.in_ok-span.ensures.numbered in
    let points = c.args.points.now in
    let numbers = c.in-Ok.span.numbers.items in
    let ring = c.self.inside.ring.corners in
    rw (c.deref.ensures.value, c.deref-2.ensures.value)
    (place_below ring points numbers is.firsts is.some c.in_ok-places.places.items
    (round_numbered ring points numbers is.firsts c.in-Ok.span.chains is.table c.in_ok-places.places.items c.in_ok-places.ensures.round))

pub of-requires : goal.of-requires
of-requires g c =
    let is = rw (c.in-Ok.is, ← c.self.view_is) at c.in_ok-span.ensures.numbered in
    let points = c.args.points.now in
    let numbers = c.in-Ok.span.numbers.items in
    let places = c.in_ok-places.places.items in
    let ring = c.self.inside.ring.corners in
    let few = places_few ring points numbers is.firsts is.some places
    (round_numbered ring points numbers is.firsts c.in-Ok.span.chains is.table places c.in_ok-places.ensures.round) in
    let are = rw (c.deref.ensures.value, c.deref-2.ensures.value) at c.in_ok-numbers.ensures.items 0 in
    let long = ap length are ∙ length-map places (slice_index numbers) in
    omega (arith, few, long, is.few)

pub returns-clause-told : goal.returns-clause-told
returns-clause-told g c =
    let is = rw (c.in-Ok.is, ← c.self.view_is) at c.in_ok-span.ensures.numbered in
    let are = rw (c.deref.ensures.value, c.deref-2.ensures.value) at c.in_ok-numbers.ensures.items 0 in
    rw (← c.self.view_is)
    (round_within c.self.inside.ring c.self.inside.mesh c.args.points.now c.in-Ok.span is c.self.invariant.fits c.in_ok-places.places.items c.of.result
    c.in_ok-places.ensures.round (c.of.ensures ∙ are))

pub returns-in_err-span-clause-steps : goal.returns-in_err-span-clause-steps
returns-in_err-span-clause-steps g c =
    closed_paid _ c.span.new.steps _ _ (length c.args.points.now) 0 c.span.ensures.steps (omega arith) (omega arith)

pub returns-in-Err-clause-steps : goal.returns-in-Err-clause-steps
returns-in-Err-clause-steps g c =
    closed_paid _ c.span.new.steps _ _ (length c.args.points.now) 0 c.span.ensures.steps (omega arith) (omega arith)

pub returns-in_err-places-clause-steps : goal.returns-in_err-places-clause-steps
returns-in_err-places-clause-steps g c =
    let is = rw (c.in-Ok.is, ← c.self.view_is) at c.in_ok-span.ensures.numbered in
    let short = chains_below c.self.inside.ring.corners c.self.inside.mesh c.args.points.now c.in-Ok.span is in
    closed_paid _ c.span.new.steps _ _ (length c.args.points.now) c.in-Ok.span.chains.count c.span.ensures.steps (c.round.ensures.steps 15 short)
    (omega (arith, is.table.count, is.no_more))

pub returns-in_err-numbers-clause-steps : goal.returns-in_err-numbers-clause-steps
returns-in_err-numbers-clause-steps g c =
    let is = rw (c.in-Ok.is, ← c.self.view_is) at c.in_ok-span.ensures.numbered in
    let short = chains_below c.self.inside.ring.corners c.self.inside.mesh c.args.points.now c.in-Ok.span is in
    closed_paid _ c.span.new.steps _ _ (length c.args.points.now) c.in-Ok.span.chains.count c.span.ensures.steps (c.round.ensures.steps 15 short)
    (omega (arith, is.table.count, is.no_more))

pub returns-clause-steps : goal.returns-clause-steps
returns-clause-steps g c =
    let is = rw (c.in-Ok.is, ← c.self.view_is) at c.in_ok-span.ensures.numbered in
    let short = chains_below c.self.inside.ring.corners c.self.inside.mesh c.args.points.now c.in-Ok.span is in
    closed_paid _ c.span.new.steps _ _ (length c.args.points.now) c.in-Ok.span.chains.count c.span.ensures.steps (c.round.ensures.steps 15 short)
    (omega (arith, is.table.count, is.no_more))
