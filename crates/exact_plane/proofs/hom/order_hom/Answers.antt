use Rattle.exact_plane.proofs.Comparing.{comparison_tells}
use Rattle.exact_plane.proofs.hom.order_hom.Goals as goal

pub returns-clause-less : goal.returns-clause-less
returns-clause-less g c =
    (comparison_tells _ _ _ _ _ _ _ c.p.invariant c.q.invariant c.p.view_is c.q.view_is c.compare.ensures c.compare-2.ensures c.then.ensures).less

pub returns-clause-equal : goal.returns-clause-equal
returns-clause-equal g c =
    (comparison_tells _ _ _ _ _ _ _ c.p.invariant c.q.invariant c.p.view_is c.q.view_is c.compare.ensures c.compare-2.ensures c.then.ensures).equal

pub returns-clause-greater : goal.returns-clause-greater
returns-clause-greater g c =
    (comparison_tells _ _ _ _ _ _ _ c.p.invariant c.q.invariant c.p.view_is c.q.view_is c.compare.ensures c.compare-2.ensures c.then.ensures).greater
