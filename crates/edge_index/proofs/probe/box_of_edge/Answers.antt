use Rattle.std.proofs.Common.{subst, arith}
use Rattle.plane.specs.Point.{IsInBounds}
use Rattle.rings.specs.Ring.{origin}
use Rattle.exact_plane.specs.Boxes.{Encloses}
use Rattle.edge_index.proofs.probe.box_of_edge.Goals as goal

pub returns-clause-encloses : goal.returns-clause-encloses
returns-clause-encloses g c = record {
  from_bounds = subst IsInBounds c.corner.ensures (c.of.ensures.limits 0 (omega arith) origin);
  to_bounds = subst IsInBounds c.corner-2.ensures (c.of.ensures.limits 1 (omega arith) origin);
  from = subst (Encloses c.of.result) c.corner.ensures (c.of.ensures.within 0 (omega arith) origin);
  to = subst (Encloses c.of.result) c.corner-2.ensures (c.of.ensures.within 1 (omega arith) origin);
}
