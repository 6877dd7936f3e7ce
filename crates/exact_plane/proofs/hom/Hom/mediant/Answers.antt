use Rattle.exact_plane.proofs.Mediants.{mediant_is_on, mediant_read}
use Rattle.exact_plane.proofs.hom.Hom.mediant.Goals as goal

pub returns-clause-mediant : goal.returns-clause-mediant
returns-clause-mediant c = mediant_read _ _ _ _ c.self.invariant c.other.invariant c.self.view_is c.other.view_is

pub returns-clause-on : goal.returns-clause-on
returns-clause-on c =
    mediant_is_on _ _ _ _ _ c.self.invariant c.other.invariant c.self.view_is c.other.view_is
    (mediant_read _ _ _ _ c.self.invariant c.other.invariant c.self.view_is c.other.view_is)
