use Rattle.ring_check.proofs.sweep.sweep.Goals as goal

pub returns-then-shows_simple-clause-order : goal.returns-then-shows_simple-clause-order
returns-then-shows_simple-clause-order g c = c.in_ok-order.ensures.order (c.shows_simple.ensures.simple c.if-shows_simple.true)

pub returns-then-shows_simple-clause-simple : goal.returns-then-shows_simple-clause-simple
returns-then-shows_simple-clause-simple g c = c.shows_simple.ensures.simple c.if-shows_simple.true
