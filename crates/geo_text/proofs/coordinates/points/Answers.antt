use Rattle.std.proofs.Common.{append_assoc, arith, ◌*◌, ◌∙◌}
use Rattle.geo_text.proofs.NumberPoints.{all_pairs, pairs_of_more}
use Rattle.geo_text.proofs.coordinates.points.Goals as goal

pub loop-k-preserved : goal.loop-k-preserved
loop-k-preserved c =
    let more = pairs_of_more c.args.numbers.now c.loop-k.k (omega arith) in
    rw (c.in_ok-push.ensures.items, append_assoc, c.point_from.ensures) (rw more at c.loop-k.invariant)

pub returns : goal.returns
returns c = c.of.ensures ∙ all_pairs c.args.numbers.now (2 * c.loop-k.k) c.loop-k.points.items (omega arith) c.loop-k.invariant
