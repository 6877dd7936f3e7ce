use Rattle.std.proofs.Common.{◌≤◌, arith, length}
use Rattle.plane.specs.declared.limits.TheConstants.{MAX_CORNERS}
use Rattle.ring_check.specs.Oriented.{given_of}
use Rattle.pair_cut.proofs.PairOrder.{sights_few}
use Rattle.geo_session.proofs.AskedVertices.{length_given}
use Rattle.geo_session.proofs.held.Held.seeing.Goals as goal

pub of-requires : goal.of-requires
of-requires c =
    let ring = c.self.inside.ring in
    let few : length (given_of ring) ≤ MAX_CORNERS = omega (arith, length_given ring, c.len-few_vertices.ensures.size.1) in
    sights_few (given_of ring) c.in_ok-given.given.items c.in_ok-given.ensures few

pub of-requires-else-is_turned : goal.of-requires-else-is_turned
of-requires-else-is_turned c =
    let ring = c.self.inside.ring.corners in
    sights_few ring c.in_ok-pairs.pairs.items (c.in_ok-pairs.ensures.sights ring (rw (← c.self.view_is) at c.requires)) c.len-few_vertices.ensures.size.1
