use Rattle.std.proofs.Common.{sym, ap, ◌∙◌, ◌++◌, ◌∷◌, []}
use Rattle.plane.proofs.Lists.{range_more}
use Rattle.cut_tri.proofs.triangulation.whole_piece.Goals as goal

pub loop-i-preserved : goal.loop-i-preserved
loop-i-preserved c = c.in_ok-push.ensures.items ∙ ap (λ xs. xs ++ c.loop-i.i ∷ []) c.loop-i.invariant ∙ sym (range_more c.loop-i.i)
