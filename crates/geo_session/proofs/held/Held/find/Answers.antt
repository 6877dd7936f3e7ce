use Rattle.std.proofs.Common.{refl}
use Rattle.geo_session.proofs.LocatedIn.{held_in_given, out_of_given}
use Rattle.geo_session.proofs.held.Held.find.Goals as goal

pub returns-in-Some-clause-found : goal.returns-in-Some-clause-found
returns-in-Some-clause-found g c =
    rw (← c.self.view_is) (
      held_in_given c.self.inside.ring c.args.point.now c.self.inside.mesh c.in-Some.tri c.self.invariant.fits c.in-Some.ensures.least,
      c.in-Some.ensures.least,
    )

pub returns-in-None-clause-found : goal.returns-in-None-clause-found
returns-in-None-clause-found g c =
    rw (← c.self.view_is) (out_of_given c.self.inside.ring c.args.point.now (c.in-None.ensures.none.0 refl), refl)
