use Rattle.std.proofs.Common.{sym, subst, map}
use Rattle.std.proofs.lemmas.Result.{IfOk-weaker}
use Rattle.meshes.specs.Fits.{Fits}
use Rattle.polygon_tests.proofs.ring_lists.KnownRows.{fits_suit}
use Rattle.polygon_tests.specs.Rows.{tri_of}
use Rattle.polygon_tests.proofs.ring_lists.mesh_with.Goals as goal

pub build-requires-clause-fits : goal.build-requires-clause-fits
build-requires-clause-fits c =
    let corners = c.args.ring.now.corners in
    let ring = c.len-ring_is_simple.ensures in
    rw c.in_ok-tris_of.ensures
    (corners, fits_suit corners (map tri_of c.args.tris.now) ring.size.0 ring.simple ring.counterclockwise c.requires.suit)

pub returns : goal.returns
returns c =
    let corners = c.args.ring.now.corners in
    let ring = c.len-ring_is_simple.ensures in
    let fits = fits_suit corners (map tri_of c.args.tris.now) ring.size.0 ring.simple ring.counterclockwise c.requires.suit in
    IfOk-weaker c.build.result _ _ (λ mesh is. subst (Fits corners) (sym is) (rw c.in_ok-tris_of.ensures fits)) c.build.ensures
