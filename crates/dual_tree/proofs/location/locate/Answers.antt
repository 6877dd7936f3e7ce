use Rattle.std.proofs.Common.{ℕ, refl, arith}
use borrow.Author.Count.{below_more}
use Rattle.plane.specs.Point.{whole}
use Rattle.meshes.proofs.Sides.{two_fewer}
use Rattle.meshes.specs.Fits.{IsInTri}
use Rattle.meshes.specs.Side.{tri_at}
use Rattle.dual_tree.proofs.LocationFits.{not_in_ring_unless_held}
use Rattle.dual_tree.proofs.location.locate.Goals as goal

pub loop-i-preserved : goal.loop-i-preserved
loop-i-preserved g c =
    let P : ℕ → Type 0 = λ k. ¬ IsInTri c.args.ring.now.corners (tri_at c.args.mesh.now k) (whole c.args.p.now) in
    record {
      none = below_more P c.loop-i.i c.loop-i.invariant.none (λ held. absurd (cc (c.holds-is_held.ensures.holds.1 (rw c.tri.ensures held))));
      few = omega (arith, c.loop-i.invariant.few, c.holds-is_held.ensures.few, c.go_on.ensures.no_more);
      paid = omega (arith, c.loop-i.invariant.paid, c.holds-is_held.ensures.paid, c.in_default.ensures.paid refl);
    }

pub returns-clause-none : goal.returns-clause-none
returns-clause-none g c = (
  λ _. not_in_ring_unless_held c.args.ring.now.corners c.args.mesh.now c.requires c.args.p.now c.loop-i.i
      (omega (arith, c.loop-i.auto.i-end, c.count-i-end.ensures.number)) c.loop-i.invariant.none,
  λ _. refl,
)
