use Rattle.std.proofs.Common.{sym, ap, ◌∙◌, ◌+◌, ◌++◌, ◌∷◌, [], arith}
use Rattle.std.proofs.lemmas.List.{map-id}
use Rattle.std.proofs.lemmas.List.FromFn.{map-range_with_len_more}
use Rattle.std.specs.List.{range_with_len}
use Rattle.polygon_tests.proofs.monotone_pieces.numbers.Goals as goal

pub loop-i-preserved : goal.loop-i-preserved
loop-i-preserved c =
    let n = c.loop-i.i in
    c.in_ok-push.ensures.items ∙ ap (λ xs. xs ++ n ∷ []) (c.loop-i.invariant ∙ sym (map-id (range_with_len 0 n)))
    ∙ sym (map-range_with_len_more (λ k. k) 0 n n (omega arith)) ∙ map-id (range_with_len 0 (n + 1))
