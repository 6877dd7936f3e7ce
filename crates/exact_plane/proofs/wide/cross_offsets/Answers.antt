use Rattle.exact_plane.proofs.WideProducts.{offsets_first_fits, offsets_fit, offsets_read, offsets_second_fits, offsets_small}
use Rattle.exact_plane.proofs.wide.cross_offsets.Goals as goal

pub overflow_mul-result : goal.overflow_mul-result
overflow_mul-result c = offsets_first_fits c.args.way.x c.args.way.y c.args.x c.args.y c.args.way.x_is_small c.args.way.y_is_small c.requires.x c.requires.y

pub overflow_mul-result-2 : goal.overflow_mul-result-2
overflow_mul-result-2 c = offsets_second_fits c.args.way.x c.args.way.y c.args.x c.args.y c.args.way.x_is_small c.args.way.y_is_small c.requires.x c.requires.y

pub overflow_sub-result : goal.overflow_sub-result
overflow_sub-result c = offsets_fit c.args.way.x c.args.way.y c.args.x c.args.y c.args.way.x_is_small c.args.way.y_is_small c.requires.x c.requires.y

pub returns-clause-value : goal.returns-clause-value
returns-clause-value c = offsets_read c.args.way.x c.args.way.y c.args.x c.args.y c.args.way.x_is_small c.args.way.y_is_small c.requires.x c.requires.y

pub returns-clause-small : goal.returns-clause-small
returns-clause-small c = offsets_small c.args.way.x c.args.way.y c.args.x c.args.y c.args.way.x_is_small c.args.way.y_is_small c.requires.x c.requires.y
