use Rattle.std.proofs.Common.{◌≡◌, inl, inr, subst, arith}
use Rattle.std.proofs.lemmas.Bool.{cases_lt}
use Rattle.plane.specs.Point.{IsInBounds, Point}
use Rattle.rings.specs.Ring.{vertex}
use Rattle.star_kernel.proofs.half_planes.coordinate_bounds.Goals as goal

pub loop-k-preserved : goal.loop-k-preserved
loop-k-preserved c i below = elim (cases_lt i c.loop-k.k) [
  | inl less ↦ c.loop-k.invariant i less
  | inr not ↦
      let same : c.loop-k.k ≡ i = omega (arith, not, below) in
      subst (λ j. IsInBounds (vertex c.args.ring.now.corners j)) same
      (subst (λ (p : Point). IsInBounds p) c.corner.ensures c.coordinate_bounds.ensures)
]
