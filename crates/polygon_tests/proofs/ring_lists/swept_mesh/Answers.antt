use Rattle.std.proofs.Common.{sym, subst, length, arith}
use Rattle.std.proofs.lemmas.List.FromFn.{length-range_with_len}
use Rattle.rings.specs.Simple.{IsSimple}
use Rattle.meshes.specs.Fits.{Fits}
use Rattle.polygon_tests.proofs.ring_lists.swept_mesh.Goals as goal

pub sweep-requires-clause-simple : goal.sweep-requires-clause-simple
sweep-requires-clause-simple g c = subst IsSimple (sym c.without_ends-board.ensures) c.len-ring_is_simple.ensures.simple

pub build-requires-clause-few : goal.build-requires-clause-few
build-requires-clause-few g c =
    let ring = c.args.ring.now.corners in
    let fits = subst (λ corners. Fits corners c.in_ok-tris.tris.items) c.without_ends-board.ensures c.in_ok-tris.ensures.fits in
    omega (arith, fits.count, c.len-ring_is_simple.ensures.size.1, length-range_with_len 0 (length ring))
