use Rattle.std.proofs.Common.{arith}
use Rattle.std.proofs.lemmas.Int.{ints}
use Rattle.exact_plane.proofs.CrossProduct.{difference_fits}
use Rattle.edge_index.proofs.SlabNumbers.{offset_read, offset_small}
use Rattle.edge_index.proofs.slab.Slab.offset.Goals as goal

pub overflow_sub-result : goal.overflow_sub-result
overflow_sub-result c =
    let slab = c.args.self.now in
    let p = c.args.p.now in
    difference_fits slab.up p.x slab.across p.y (omega (arith, ints, slab.up_fits)) (omega (arith, ints, p.x_fits))
    (omega (arith, ints, slab.across_fits)) (omega (arith, ints, p.y_fits))

pub returns-clause-value : goal.returns-clause-value
returns-clause-value c =
    let slab = c.args.self.now in
    let p = c.args.p.now in
    offset_read slab.across slab.up p.x p.y slab.across_fits slab.up_fits p.x_fits p.y_fits

pub returns-clause-fits : goal.returns-clause-fits
returns-clause-fits c =
    let slab = c.args.self.now in
    let p = c.args.p.now in
    rw (offset_read slab.across slab.up p.x p.y slab.across_fits slab.up_fits p.x_fits p.y_fits)
    (offset_small slab.across slab.up p.x p.y slab.across_fits slab.up_fits p.x_fits p.y_fits)
