use Rattle.std.proofs.Common.{◌^◌, arith}
use Rattle.exact_plane.proofs.WideProducts.{product_fits, weighted_fits, weighted_read, weighted_small}
use Rattle.exact_plane.proofs.wide.weighted_sum.Goals as goal

pub overflow_mul-result : goal.overflow_mul-result
overflow_mul-result c = product_fits c.args.coordinate c.args.weight (2 ^ 23) (2 ^ 49) c.requires.coordinate c.requires.weight (omega arith) (omega arith) (omega arith)

pub overflow_mul-result-2 : goal.overflow_mul-result-2
overflow_mul-result-2 c = product_fits c.args.difference c.args.share (2 ^ 24) (2 ^ 49) c.requires.difference c.requires.share (omega arith) (omega arith) (omega arith)

pub overflow_add-result : goal.overflow_add-result
overflow_add-result c =
    weighted_fits c.args.coordinate c.args.weight c.args.difference c.args.share c.requires.coordinate c.requires.weight c.requires.difference c.requires.share

pub returns-clause-value : goal.returns-clause-value
returns-clause-value c =
    weighted_read c.args.coordinate c.args.weight c.args.difference c.args.share c.requires.coordinate c.requires.weight c.requires.difference c.requires.share

pub returns-clause-small : goal.returns-clause-small
returns-clause-small c =
    weighted_small c.args.coordinate c.args.weight c.args.difference c.args.share c.requires.coordinate c.requires.weight c.requires.difference c.requires.share
