use Rattle.std.proofs.Common.{length, arith}
use Rattle.std.proofs.lemmas.List.FromFn.{length-range_with_len}
use Rattle.geo_session.proofs.held.mesh_of.Goals as goal
use Rattle.geo_reply.proofs.Fronts.{none_of_err}

pub of-requires : goal.of-requires
of-requires g c =
    let ring = c.args.ring.now.corners in
    rw c.deref.ensures.value
    (omega (arith, c.in_ok-tris.ensures.fits.count, c.len-ring_is_simple.ensures.size.1, length-range_with_len 0 (length ring)))

pub with_hierarchy-requires-clause-few : goal.with_hierarchy-requires-clause-few
with_hierarchy-requires-clause-few g c =
    let ring = c.args.ring.now.corners in
    omega (arith, c.in_ok-tris.ensures.fits.count, c.len-ring_is_simple.ensures.size.1, length-range_with_len 0 (length ring))

pub returns-in_err-tris-clause-fits : goal.returns-in_err-tris-clause-fits
returns-in_err-tris-clause-fits g c =
    none_of_err _ c.from_residual.result c.from_residual.ensures.0

pub returns-in_err-hierarchy-clause-fits : goal.returns-in_err-hierarchy-clause-fits
returns-in_err-hierarchy-clause-fits g c =
    none_of_err _ c.from_residual-in_err-hierarchy.result c.from_residual-in_err-hierarchy.ensures.0

pub returns-in_err-hierarchy-clause-steps : goal.returns-in_err-hierarchy-clause-steps
returns-in_err-hierarchy-clause-steps g c =
    let taken = rw c.deref.ensures.value at c.of.ensures in
    omega (arith, c.sweep_ring.ensures.steps, taken, c.in_ok-tris.ensures.fits.count, length-range_with_len 0 (length c.args.ring.now.corners))

pub returns-clause-steps : goal.returns-clause-steps
returns-clause-steps g c =
    let taken = rw c.deref.ensures.value at c.of.ensures in
    omega (arith, c.sweep_ring.ensures.steps, taken, c.in_ok-tris.ensures.fits.count, length-range_with_len 0 (length c.args.ring.now.corners))
