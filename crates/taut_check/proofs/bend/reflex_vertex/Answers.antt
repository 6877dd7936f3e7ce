use Rattle.std.proofs.Common.{arith, below_more, ℕ, ◌≡◌}
use Rattle.rings.specs.Orientation.{IsReflex}
use Rattle.rings.specs.Ring.{vertex}
use Rattle.taut_check.proofs.bend.reflex_vertex.Goals as goal

pub loop-i-preserved : goal.loop-i-preserved
loop-i-preserved g c = (
  below_more (λ (j : ℕ). ¬ ((vertex c.args.ring.now.corners j ≡ c.args.p.now) × IsReflex c.args.ring.now.corners j)) c.loop-i.i c.loop-i.invariant.0
      (λ h. absurd (cc (c.is_reflex_at.ensures.reflex.1 h, c.if-is_reflex_at.false))),
  omega (arith, c.loop-i.invariant.1, c.is_reflex_at.ensures.steps),
)

pub returns-clause-none : goal.returns-clause-none
returns-clause-none g c = λ v. c.loop-i.invariant.0 v.i (omega (arith, v.in_ring)) (v.is_vertex, v.reflex)
