use Rattle.std.proofs.Common.{arith}
use Rattle.plane.specs.Convex.{corner}
use Rattle.half_cut.proofs.seek.first_right.Goals as goal
use Rattle.half_cut.specs.Outline.{IsRightOf}
use borrow.Author.Count.{below_more}

pub loop-i-preserved : goal.loop-i-preserved
loop-i-preserved g c = record {
  none =
      below_more (λ k. ¬ IsRightOf c.args.line.now (corner c.args.corners.now.items k)) c.loop-i.i c.loop-i.invariant.none
      (λ right. absurd (cc (c.is_right_at.ensures.right.1 right, c.if-is_right_at.false)));
  steps = omega (arith, c.loop-i.invariant.steps, c.is_right_at.ensures.steps);
}
