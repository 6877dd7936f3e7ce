use Rattle.std.proofs.Common.{arith}
use Rattle.exact_plane.proofs.Halves.{half_paid}
use Rattle.ring_check.proofs.status.place_of.Goals as goal

pub loop-low-init : goal.loop-low-init
loop-low-init g c = (omega arith, omega arith, λ d below. (d, omega (arith, below), omega arith))

pub loop-low-preserved-then-goes_below : goal.loop-low-preserved-then-goes_below
loop-low-preserved-then-goes_below g c =
    let before = c.loop-low.invariant in (
      omega arith,
      omega (arith, before.1),
      λ d below. half_paid _ _ _ _ _ (omega arith) (omega arith) c.goes_below.ensures (before.2 d below),
    )

pub loop-low-preserved : goal.loop-low-preserved
loop-low-preserved g c =
    let before = c.loop-low.invariant in (
      omega arith,
      omega (arith, before.1),
      λ d below. half_paid _ _ _ _ _ (omega arith) (omega arith) c.goes_below.ensures (before.2 d below),
    )

pub returns-clause-steps : goal.returns-clause-steps
returns-clause-steps g c = λ d below.
    let (e, left, paid) = c.loop-low.invariant.2 d below in
    omega (arith, paid)
