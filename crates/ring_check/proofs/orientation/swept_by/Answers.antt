use Rattle.exact_plane.proofs.CrossProduct.{product_fits}
use Rattle.ring_check.proofs.SweptArea.{below, half, swept_fits, swept_read, swept_small}
use Rattle.ring_check.proofs.orientation.swept_by.Goals as goal

pub overflow_mul-result : goal.overflow_mul-result
overflow_mul-result c =
    product_fits c.args.from.0 c.args.to.1 (below c.args.from.0 c.requires.from.x_in_limit) (half c.args.to.1 c.requires.to.y_in_limit)

pub overflow_mul-result-2 : goal.overflow_mul-result-2
overflow_mul-result-2 c =
    product_fits c.args.to.0 c.args.from.1 (below c.args.to.0 c.requires.to.x_in_limit) (half c.args.from.1 c.requires.from.y_in_limit)

pub overflow_sub-result : goal.overflow_sub-result
overflow_sub-result c =
    swept_fits (record { x = c.args.from.0; y = c.args.from.1 }) (record { x = c.args.to.0; y = c.args.to.1 }) c.requires.from c.requires.to

pub returns-clause-value : goal.returns-clause-value
returns-clause-value c =
    swept_read (record { x = c.args.from.0; y = c.args.from.1 }) (record { x = c.args.to.0; y = c.args.to.1 }) c.requires.from c.requires.to

pub returns-clause-small : goal.returns-clause-small
returns-clause-small c =
    swept_small (record { x = c.args.from.0; y = c.args.from.1 }) (record { x = c.args.to.0; y = c.args.to.1 }) c.requires.from c.requires.to
