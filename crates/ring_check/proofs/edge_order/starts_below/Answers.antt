use Rattle.std.proofs.Common.{inl, inr}
use Rattle.exact_plane.proofs.Directions.{negative_of_right}
use Rattle.exact_plane.proofs.Directions.{positive_of_left}
use Rattle.ring_check.proofs.edge_order.starts_below.Goals as goal

pub returns-then-events-e-clause-below : goal.returns-then-events-e-clause-below
returns-then-events-e-clause-below g c = λ h. inl (positive_of_left _ (c.turns.ensures.way h))

pub returns-else-events-e-clause-below : goal.returns-else-events-e-clause-below
returns-else-events-e-clause-below g c = λ h. inr (negative_of_right _ (c.turns-else-events-e.ensures.way h))
