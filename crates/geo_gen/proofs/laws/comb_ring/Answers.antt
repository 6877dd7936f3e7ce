use Rattle.std.proofs.Common.{arith}
use Rattle.geo_gen.proofs.CombLaws.{comb_in_bounds, counterclockwise_comb, goal_in_comb, start_in_comb}
use Rattle.geo_gen.proofs.Corners.{length_comb}
use Rattle.geo_gen.proofs.SimpleComb.{simple_comb}
use Rattle.geo_gen.proofs.laws.comb_ring.Goals as goal

pub returns-clause-simple : goal.returns-clause-simple
returns-clause-simple c = simple_comb c.args.k c.requires.some

pub returns-clause-counterclockwise : goal.returns-clause-counterclockwise
returns-clause-counterclockwise c = counterclockwise_comb c.args.k c.requires.some

pub returns-clause-count : goal.returns-clause-count
returns-clause-count c = length_comb c.args.k

pub returns-clause-size : goal.returns-clause-size
returns-clause-size c = (omega (arith, length_comb c.args.k), omega (arith, length_comb c.args.k))

pub returns-clause-bounds : goal.returns-clause-bounds
returns-clause-bounds c = comb_in_bounds c.args.k c.requires.few

pub returns-clause-start : goal.returns-clause-start
returns-clause-start c = start_in_comb c.args.k

pub returns-clause-goal : goal.returns-clause-goal
returns-clause-goal c = goal_in_comb c.args.k
