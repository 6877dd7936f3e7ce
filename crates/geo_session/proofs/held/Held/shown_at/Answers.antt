use Rattle.pair_cut.proofs.TableRows.{corner_of_some}
use Rattle.geo_session.proofs.VertexTriangles.{path_at}
use Rattle.geo_session.proofs.held.Held.shown_at.Goals as goal

pub full_along-requires : goal.full_along-requires
full_along-requires g c =
    rw (← c.self.view_is, c.deref.ensures.value)
    (path_at c.self.inside.ring.corners c.self.inside.mesh c.self.invariant.fits c.in_ok-sleeve-in-Two.sleeve c.triangle_at-from.result
    c.triangle_at-to.result c.args.pair.0 c.args.pair.1 c.args.chain.items c.in_ok-sleeve-in-Two.ensures.of_mesh
    c.in_ok-sleeve-in-Two.ensures.between c.triangle_at-from.ensures.in_list c.triangle_at-to.ensures.in_list c.triangle_at-from.ensures.corner
    c.triangle_at-to.ensures.corner (rw (← c.self.view_is) at c.requires.path))

pub triangle_at-from-requires : goal.triangle_at-from-requires
triangle_at-from-requires g c =
    corner_of_some c.self.inside.ring.corners c.self.inside.mesh c.self.invariant.fits c.args.pair.0 (rw (← c.self.view_is) at c.requires.first)

pub triangle_at-to-requires : goal.triangle_at-to-requires
triangle_at-to-requires g c =
    corner_of_some c.self.inside.ring.corners c.self.inside.mesh c.self.invariant.fits c.args.pair.1 (rw (← c.self.view_is) at c.requires.second)
