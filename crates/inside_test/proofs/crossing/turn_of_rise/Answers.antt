use Rattle.inside_test.proofs.Passed.{left_of_rise, right_of_rise}
use Rattle.inside_test.proofs.crossing.turn_of_rise.Goals as goal

pub returns-then-is_left_of_both-clause-turn : goal.returns-then-is_left_of_both-clause-turn
returns-then-is_left_of_both-clause-turn g c =
    let (low, high) = (c.is_left_of_both.ensures.left c.args.p.now c.requires.levels).0 c.if-is_left_of_both.true in
    left_of_rise c.args.low.now c.args.high.now c.args.p.now c.requires.rational c.requires.rises low high

pub returns-then-is_right_of_both-clause-turn : goal.returns-then-is_right_of_both-clause-turn
returns-then-is_right_of_both-clause-turn g c =
    let (low, high) = (c.is_right_of_both.ensures.right c.args.p.now c.requires.levels).0 c.if-is_right_of_both.true in
    right_of_rise c.args.low.now c.args.high.now c.args.p.now c.requires.rational c.requires.rises low high
