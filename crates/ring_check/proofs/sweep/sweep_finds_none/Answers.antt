use Rattle.ring_check.proofs.sweep.sweep_finds_none.Goals.{in-None, in-Some}
use Rattle.ring_check.proofs.sweep.sweep_finds_none.Goals as goal

pub returns-clause-simple : goal.returns-clause-simple
returns-clause-simple g c = elim c.match-simple_order.branch [ in-Some w ↦ λ _. w.in-Some.ensures.simple | in-None w ↦ λ h. absurd cc ]
