use Rattle.ring_check.proofs.ring.Ring.len.Goals as goal

pub returns-clause-simple : goal.returns-clause-simple
returns-clause-simple c = rw (← c.self.view_is) c.self.invariant.2
