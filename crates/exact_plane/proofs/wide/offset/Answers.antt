use Rattle.std.proofs.Common.{◌^◌, arith}
use Rattle.exact_plane.proofs.WideProducts.{offset_fits, offset_read, offset_small, product_fits}
use Rattle.exact_plane.proofs.wide.offset.Goals as goal

pub overflow_mul-result : goal.overflow_mul-result
overflow_mul-result c = product_fits c.args.coordinate c.args.weight (2 ^ 23) (2 ^ 50) c.requires.coordinate c.requires.weight (omega arith) (omega arith) (omega arith)

pub overflow_sub-result : goal.overflow_sub-result
overflow_sub-result c = offset_fits c.args.part c.args.coordinate c.args.weight c.requires.part c.requires.coordinate c.requires.weight

pub returns-clause-value : goal.returns-clause-value
returns-clause-value c = offset_read c.args.part c.args.coordinate c.args.weight c.requires.part c.requires.coordinate c.requires.weight

pub returns-clause-small : goal.returns-clause-small
returns-clause-small c = offset_small c.args.part c.args.coordinate c.args.weight c.requires.part c.requires.coordinate c.requires.weight
