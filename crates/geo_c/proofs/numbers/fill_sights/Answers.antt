use Rattle.std.proofs.Common.{take}
use Rattle.std.specs.Prelude.{flat_map}
use Rattle.geo_c.specs.Contents.{sight_numbers}
use Rattle.geo_c.proofs.Putting.{flat_put}
use Rattle.geo_c.proofs.numbers.fill_sights.Goals as goal

pub loop-pair-preserved : goal.loop-pair-preserved
loop-pair-preserved c =
    let pairs = c.args.pairs.now in
    let k = c.loop-pair.pair-index in
    flat_put pairs k c.args.out.now c.put_pair.new.out c.put_pair.new.next sight_numbers (0, 0) c.loop-pair-test.true
    (c.put_pair.ensures (flat_map sight_numbers (take k pairs)) c.args.out.now c.loop-pair.invariant)
