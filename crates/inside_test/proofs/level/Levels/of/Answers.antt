use Rattle.std.proofs.Common.{arith}
use Rattle.std.proofs.lemmas.Int.{ints, to_z-of_z}
use Rattle.std.specs.Prelude.{FitsSigned}
use mir.Syntax.{w128}
use Rattle.inside_test.proofs.level.Levels.of.Goals as goal

pub returns-clause-levels : goal.returns-clause-levels
returns-clause-levels g c =
    let parts = c.parts-x.ensures in
    let fits_x : FitsSigned w128 c.args.p.now.X = omega (arith, ints, parts.sizes.X_small) in
    let fits_y : FitsSigned w128 c.args.p.now.Y = omega (arith, ints, parts.sizes.Y_small) in
    let fits_w : FitsSigned w128 c.args.p.now.W = omega (arith, ints, parts.sizes.W_small) in
    record {
      across = rw (parts.x, parts.w, to_z-of_z w128 c.args.p.now.X fits_x, to_z-of_z w128 c.args.p.now.W fits_w) at c.of.ensures;
      height = rw (parts.y, parts.w, to_z-of_z w128 c.args.p.now.Y fits_y, to_z-of_z w128 c.args.p.now.W fits_w) at c.of-2.ensures;
    }
