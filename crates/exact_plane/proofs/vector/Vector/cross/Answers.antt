use Rattle.exact_plane.proofs.CrossProduct.{difference_fits, difference_read, difference_small, fits_half, product_fits}
use Rattle.exact_plane.proofs.vector.Vector.cross.Goals as goal

pub returns-clause-value : goal.returns-clause-value
returns-clause-value c =
    difference_read c.args.self.x c.args.other.y c.args.self.y c.args.other.x c.args.self.x_is_small (fits_half c.args.other.y c.args.other.y_is_small) c.args.self.y_is_small (fits_half c.args.other.x c.args.other.x_is_small)

pub returns-clause-small : goal.returns-clause-small
returns-clause-small c =
    difference_small c.args.self.x c.args.other.y c.args.self.y c.args.other.x c.args.self.x_is_small c.args.other.y_is_small c.args.self.y_is_small c.args.other.x_is_small

pub overflow_mul-result : goal.overflow_mul-result
overflow_mul-result c = product_fits c.args.self.x c.args.other.y c.args.self.x_is_small (fits_half c.args.other.y c.args.other.y_is_small)

pub overflow_mul-result-2 : goal.overflow_mul-result-2
overflow_mul-result-2 c = product_fits c.args.self.y c.args.other.x c.args.self.y_is_small (fits_half c.args.other.x c.args.other.x_is_small)

pub overflow_sub-result : goal.overflow_sub-result
overflow_sub-result c =
    difference_fits c.args.self.x c.args.other.y c.args.self.y c.args.other.x c.args.self.x_is_small (fits_half c.args.other.y c.args.other.y_is_small) c.args.self.y_is_small (fits_half c.args.other.x c.args.other.x_is_small)
