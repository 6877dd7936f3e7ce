use Rattle.std.proofs.Common.{◌≡◌, subst, rules}
use Rattle.rings.specs.Simple.{IsSimple}
use Rattle.meshes.specs.Fits.{piece_points}
use Rattle.polygon_tests.proofs.monotone_pieces.filled.Goals as goal

pub fill-requires-clause-simple : goal.fill-requires-clause-simple
fill-requires-clause-simple g c =
    let same : c.expect-ring.result.corners ≡ piece_points c.deref-2.result.now c.args.piece.now = search rules in
    subst IsSimple same c.len-ring_is_simple.ensures.simple
