use Rattle.std.proofs.Common.{◌∙◌, sym, ◌++◌, [], ◌∷◌, arith}
use Rattle.std.proofs.lemmas.List.FromFn.{map-range_with_len_more}
use Rattle.geo_gen.specs.Comb.{above}
use Rattle.geo_gen.proofs.combs.row.Goals as goal

pub loop-i-preserved : goal.loop-i-preserved
loop-i-preserved c =
    c.in_ok-push.ensures.items ∙ (λ t. c.loop-i.invariant t ++ c.above.ensures t ∷ [])
    ∙ sym (map-range_with_len_more (λ i. above i _) 0 c.loop-i.i c.loop-i.i (omega arith))
