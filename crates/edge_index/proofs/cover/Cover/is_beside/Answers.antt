use Rattle.std.proofs.Common.{ℤ, ◌≤ℤ◌, arith}
use Rattle.plane.specs.Point.{IsInLimit}
use Rattle.exact_plane.proofs.Registers.{short_is}
use Rattle.edge_index.proofs.LineNumbers.{line_fits, line_read, line_read_small, slope_fits, slope_read, slope_read_small}
use Rattle.edge_index.proofs.LineSides.{apart_by_first, apart_by_second}
use Rattle.edge_index.proofs.Multiples.{long_read}
use Rattle.edge_index.proofs.cover.Cover.is_beside.Goals as goal

pub overflow_sub-slope : goal.overflow_sub-slope
overflow_sub-slope c =
    let slab = c.args.self.now.slab in
    let way = c.args.edge.now.way in
    slope_fits way.across way.up slab.across slab.up way.across_fits way.up_fits slab.across_fits slab.up_fits

pub overflow_mul-line : goal.overflow_mul-line
overflow_mul-line c = line_fits c.args.self.now.slab.across c.args.edge.now.here c.args.self.now.slab.across_fits c.args.edge.now.here_fits

pub overflow_mul-line-else-abs : goal.overflow_mul-line-else-abs
overflow_mul-line-else-abs c = line_fits c.args.self.now.slab.up c.args.edge.now.here c.args.self.now.slab.up_fits c.args.edge.now.here_fits

pub keep_side-requires-clause-slope : goal.keep_side-requires-clause-slope
keep_side-requires-clause-slope c =
    let slab = c.args.self.now.slab in
    let way = c.args.edge.now.way in
    slope_read_small way.across way.up slab.across slab.up way.across_fits way.up_fits slab.across_fits slab.up_fits

pub keep_side-requires-else-abs-clause-slope : goal.keep_side-requires-else-abs-clause-slope
keep_side-requires-else-abs-clause-slope c =
    let slab = c.args.self.now.slab in
    let way = c.args.edge.now.way in
    slope_read_small way.across way.up slab.across slab.up way.across_fits way.up_fits slab.across_fits slab.up_fits

pub keep_side-requires-clause-line : goal.keep_side-requires-clause-line
keep_side-requires-clause-line c =
    line_read_small c.args.self.now.slab.across c.args.edge.now.here c.args.self.now.slab.across_fits c.args.edge.now.here_fits

pub keep_side-requires-else-abs-clause-line : goal.keep_side-requires-else-abs-clause-line
keep_side-requires-else-abs-clause-line c =
    line_read_small c.args.self.now.slab.up c.args.edge.now.here c.args.self.now.slab.up_fits c.args.edge.now.here_fits

pub returns-then-abs : goal.returns-then-abs
returns-then-abs c = λ all.
    let cover = c.args.self.now in
    let edge = c.args.edge.now in
    let slab = cover.slab in
    let way = edge.way in
    let box = cover.bounds in
    let low = c.within.result in
    let high = c.within-then-abs.result in
    let from : (x : ℤ) → IsInLimit x → box.west ≤ℤ x → low ≤ℤ x = λ x. rw (short_is box.west box.west_fits) at (c.within.ensures.above x) in
    let to : (x : ℤ) → IsInLimit x → x ≤ℤ box.east → x ≤ℤ high = λ x. rw (short_is box.east box.east_fits) at (c.within-then-abs.ensures.below x) in
    apart_by_first cover edge low high from to
    (rw (
      slope_read way.across way.up slab.across slab.up way.across_fits way.up_fits slab.across_fits slab.up_fits,
      line_read slab.across edge.here slab.across_fits edge.here_fits,
      long_read way.across (omega (arith, way.across_fits)),
      long_read low (omega (arith, c.within.ensures.fits)),
      long_read high (omega (arith, c.within-then-abs.ensures.fits)),
    ) at (c.keep_side.ensures.side all))

pub returns-else-abs : goal.returns-else-abs
returns-else-abs c = λ all.
    let cover = c.args.self.now in
    let edge = c.args.edge.now in
    let slab = cover.slab in
    let way = edge.way in
    let box = cover.bounds in
    let low = c.within-else-abs.result in
    let high = c.within-else-abs-2.result in
    let from : (x : ℤ) → IsInLimit x → box.south ≤ℤ x → low ≤ℤ x = λ x. rw (short_is box.south box.south_fits) at (c.within-else-abs.ensures.above x) in
    let to : (x : ℤ) → IsInLimit x → x ≤ℤ box.north → x ≤ℤ high = λ x. rw (short_is box.north box.north_fits) at (c.within-else-abs-2.ensures.below x) in
    apart_by_second cover edge low high from to
    (rw (
      slope_read way.across way.up slab.across slab.up way.across_fits way.up_fits slab.across_fits slab.up_fits,
      line_read slab.up edge.here slab.up_fits edge.here_fits,
      long_read way.up (omega (arith, way.up_fits)),
      long_read low (omega (arith, c.within-else-abs.ensures.fits)),
      long_read high (omega (arith, c.within-else-abs-2.ensures.fits)),
    ) at (c.keep_side-else-abs.ensures.side all))
