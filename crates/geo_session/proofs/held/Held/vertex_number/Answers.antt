use Rattle.std.proofs.Common.{subst, sym, w64}
use Rattle.std.proofs.lemmas.Int.{to_z-of_z}
use Rattle.std.specs.Int.{FitsUnsignedBits}
use Rattle.geo_session.proofs.AskedVertices.{index_fits}
use Rattle.geo_session.proofs.held.Held.vertex_number.Goals as goal

pub returns-in_default-2-clause-none : goal.returns-in_default-2-clause-none
returns-in_default-2-clause-none c index =
    let fits = index_fits c.self.inside.ring c.args.z c.len-count.ensures.size.1 (rw (← c.self.view_is) at index) in
    c.in_default.ensures (subst (FitsUnsignedBits 32) (sym (to_z-of_z w64 c.args.z c.ranges.z)) fits)
