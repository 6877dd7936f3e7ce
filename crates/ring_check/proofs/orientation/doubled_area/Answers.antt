use Rattle.std.proofs.Common.{◌≡◌, ◌<◌, ◌^◌, length, arith}
use Rattle.ring_check.proofs.AreaSoFar.{area_more, area_whole, sum_fits, sum_read, sum_small}
use Rattle.ring_check.proofs.orientation.doubled_area.Goals as goal

pub overflow_add-area : goal.overflow_add-area
overflow_add-area g c =
    let (so_far, bound, steps) = rw c.loop-i.area-is at c.loop-i.invariant in
    let few : c.loop-i.i < 2 ^ 16 = omega (arith, c.loop-i-test.true, c.requires.most) in
    rw c.loop-i.area-is (sum_fits c.loop-i.area c.swept-area.result c.loop-i.i bound c.swept-area.ensures.small few)

pub loop-i-preserved : goal.loop-i-preserved
loop-i-preserved g c =
    let (so_far, bound, steps) = rw c.loop-i.area-is at c.loop-i.invariant in
    let small = c.swept-area.ensures.small in
    let few : c.loop-i.i < 2 ^ 16 = omega (arith, c.loop-i-test.true, c.requires.most) in
    rw (c.loop-i.area-is, sum_read c.loop-i.area c.swept-area.result c.loop-i.i bound small few) (
      area_more c.args.points.now c.loop-i.i c.loop-i.area c.swept-area.result _ _ (omega arith) c.loop-i-test.true
          c.index-points-i.is c.index-points-i-in-loop-i.is c.swept-area.ensures.value so_far,
      sum_small c.loop-i.area c.swept-area.result c.loop-i.i bound small,
      omega (arith, steps, c.swept-area.ensures.steps),
    )

pub overflow_add-result : goal.overflow_add-result
overflow_add-result g c =
    let (so_far, bound, steps) = rw c.loop-i.area-is at c.loop-i.invariant in
    let last : c.loop-i.i ≡ length c.args.points.now = omega arith in
    let few : c.loop-i.i < 2 ^ 16 = omega (arith, last, c.requires.most) in
    rw c.loop-i.area-is (sum_fits c.loop-i.area c.swept.result c.loop-i.i bound c.swept.ensures.small few)

pub returns-clause-area : goal.returns-clause-area
returns-clause-area g c =
    let ring = c.args.points.now in
    let (so_far, bound, steps) = rw c.loop-i.area-is at c.loop-i.invariant in
    let last : c.loop-i.i ≡ length ring = omega arith in
    let few : c.loop-i.i < 2 ^ 16 = omega (arith, last, c.requires.most) in
    rw (c.loop-i.area-is, sum_read c.loop-i.area c.swept.result c.loop-i.i bound c.swept.ensures.small few)
    (area_whole ring c.loop-i.i c.loop-i.area c.swept.result _ _ c.requires.some last c.index-points-points.is c.index-points-0.is c.swept.ensures.value so_far)
