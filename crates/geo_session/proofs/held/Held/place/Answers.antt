use Rattle.geo_session.proofs.Places.{placed_given}
use Rattle.geo_session.proofs.held.Held.place.Goals as goal

pub returns-clause-place : goal.returns-clause-place
returns-clause-place g c =
    rw (← c.self.view_is)
    (placed_given c.self.inside.ring c.args.point.now c.place.result c.place.ensures.edge c.place.ensures.inside c.place.ensures.outside)
