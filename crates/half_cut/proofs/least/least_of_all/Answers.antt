use Rattle.std.proofs.Common.{◌+◌, ◌<◌, ◌≤◌, arith, length}
use Rattle.half_cut.proofs.LeastCorners.{least_here, least_still}
use Rattle.half_cut.proofs.least.least_of_all.Goals as goal
use Rattle.half_cut.proofs.least.least_of_all.Goals.{else-precedes, then-precedes}

pub loop-i-preserved : goal.loop-i-preserved
loop-i-preserved g c =
    let cs = c.args.corners.now.items in
    let i = c.loop-i.i in
    let best = c.loop-i.best in
    let in_i : i < length cs = grind (arith, c.loop-i-test.true, c.len-i-end.ensures, c.args.corners.now.ok.0) in
    let before = c.loop-i.invariant in
    let in_best : best < length cs = before.within in
    let paid : c.precedes.new.steps + 1 ≤ c.args.steps.now + (i + 1) = omega (arith, before.steps, c.precedes.ensures.steps) in
    elim c.if-precedes.branch [
      | then-precedes w ↦ rw w.best-is (record {
        within = in_i;
        none = least_here cs c.requires.convex.rational i best in_i in_best before.none (c.precedes.ensures.before.0 w.if-precedes.true);
        steps = paid;
      })
      | else-precedes w ↦
          rw w.best-is (record {
            within = in_best;
            none = least_still cs c.requires.convex.rational i best in_i in_best before.none
                (λ h. absurd (cc (c.precedes.ensures.before.1 h, w.if-precedes.false)));
            steps = paid;
          })
    ]
