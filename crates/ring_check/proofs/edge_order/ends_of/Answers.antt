use Rattle.ring_check.proofs.EdgeEnds.{ends_downward, ends_upward}
use Rattle.ring_check.proofs.edge_order.ends_of.Goals as goal

pub returns-then-events-e-clause-first : goal.returns-then-events-e-clause-first
returns-then-events-e-clause-first c = (ends_upward c.args.events.now.ranks.now c.args.e c.next-after.result c.next-after.ensures.number c.if-events-e.true).0

pub returns-then-events-e-clause-last : goal.returns-then-events-e-clause-last
returns-then-events-e-clause-last c = (ends_upward c.args.events.now.ranks.now c.args.e c.next-after.result c.next-after.ensures.number c.if-events-e.true).1

pub returns-then-events-e-clause-vertices : goal.returns-then-events-e-clause-vertices
returns-then-events-e-clause-vertices c = record { first = c.requires; last = c.next-after.ensures.below }

pub returns-else-events-e-clause-first : goal.returns-else-events-e-clause-first
returns-else-events-e-clause-first c = (ends_downward c.args.events.now.ranks.now c.args.e c.next-after.result c.next-after.ensures.number c.if-events-e.false).0

pub returns-else-events-e-clause-last : goal.returns-else-events-e-clause-last
returns-else-events-e-clause-last c = (ends_downward c.args.events.now.ranks.now c.args.e c.next-after.result c.next-after.ensures.number c.if-events-e.false).1

pub returns-else-events-e-clause-vertices : goal.returns-else-events-e-clause-vertices
returns-else-events-e-clause-vertices c = record { first = c.next-after.ensures.below; last = c.requires }
