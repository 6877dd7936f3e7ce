use Rattle.std.proofs.Common.{◌∙◌, ap, subst, ◌+◌, ◌*◌, ◌%◌, arith, length}
use Rattle.plane.specs.Convex.{corner}
use Rattle.plane.specs.Region.{corner_at}
use Rattle.half_cut.proofs.Blocks.{mod_add}
use Rattle.half_cut.proofs.block.run.Goals as goal
use Rattle.half_cut.specs.Outline.{IsRightOf}
use borrow.Author.Count.{below_more}

pub loop-k-preserved : goal.loop-k-preserved
loop-k-preserved g c =
    let cs = c.args.corners.now.items in
    let from = c.args.from in
    let step = c.args.step in
    let k = c.loop-k.k in
    let before = c.loop-k.invariant in
    record {
      place =
          c.round-place.ensures ∙ ap (λ p. (p + step) % length cs) before.place ∙ mod_add (from + k * step) step (length cs)
          ∙ ap (λ p. p % length cs) (omega arith);
      right =
          below_more (λ i. IsRightOf c.args.line.now (corner_at cs (from + i * step))) k before.right
          (subst (λ p. IsRightOf c.args.line.now (corner cs p)) before.place
          (c.is_right_at.ensures.right.0 (grind (arith, c.if-not-is_right_at.false))));
      steps = omega (arith, before.steps, c.is_right_at.ensures.steps);
    }
