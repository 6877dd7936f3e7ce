use Rattle.std.proofs.Common.{◌+◌, ◌*◌, ◌<◌, length, arith}
use Rattle.plane.specs.Point.{whole}
use Rattle.rings.specs.Ring.{vertex}
use Rattle.star_kernel.proofs.HalfPlanes.{below_more, none_below, nothing_left_below, one_cut, paid_for_all}
use Rattle.star_kernel.proofs.half_planes.inner_side.Goals as goal
use Rattle.star_kernel.specs.HalfPlanes.{IsLeftOfBelow}

pub loop-first-init : goal.loop-first-init
loop-first-init g c = record {
  within = omega arith;
  cut = none_below c.args.ring.now.corners c.in_ok-region.region.corners c.in_ok-region.ensures.square;
  few = omega (arith, c.in_ok-region.ensures.four);
  steps = λ d below. omega (arith, c.in_ok-region.ensures.four);
}

pub returns-then-count-eq0-clause-kernel : goal.returns-then-count-eq0-clause-kernel
returns-then-count-eq0-clause-kernel g c =
    let facts = c.len-n.ensures in
    nothing_left_below c.args.ring.now.corners facts.size.0 facts.simple facts.counterclockwise c.requires.bounds c.loop-first.first
    c.loop-first.invariant.within c.loop-first.region.corners
    (omega (arith, c.count-in-loop-first.ensures.number, c.if-count-eq0.true)) c.loop-first.invariant.cut

pub loop-first-preserved : goal.loop-first-preserved
loop-first-preserved g c =
    let ring = c.args.ring.now.corners in
    let k = c.loop-first.first in
    let before = c.loop-first.invariant in
    let cut = c.in_ok-cut_along.ensures in
    let less : k < length ring = omega (arith, c.len-n.ensures.number, c.loop-first-test.true) in
    record {
      within = omega (arith, less);
      cut = one_cut (IsLeftOfBelow ring k) (IsLeftOfBelow ring (k + 1)) (whole (vertex ring k)) (whole (vertex ring (k + 1))) (below_more ring k)
          c.loop-first.region.corners c.cut_along.new.region.corners before.cut cut.cut;
      few = omega (arith, before.few, cut.few);
      steps = λ d below.
          let paid = cut.steps d (omega (arith, before.few, less, below)) in
          let sum = before.steps d below in
          omega (arith, sum, paid);
    }

pub returns-clause-steps : goal.returns-clause-steps
returns-clause-steps g c d below =
    let n = length c.args.ring.now.corners in
    let first = c.loop-first.first in
    let sum = c.loop-first.invariant.steps d below in
    let rest = c.cut_by_rest.ensures.steps d below in
    let paid = paid_for_all first n (2 * d + 15) (2 * d + 143) c.loop-first.invariant.within (omega arith) in
    omega (arith, sum, rest, paid)
