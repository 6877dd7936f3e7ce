use Rattle.flip_tri.proofs.MeshRows.{row_of_mesh}
use Rattle.flip_tri.proofs.flips.row_of.Goals as goal

pub returns : goal.returns
returns c =
    row_of_mesh c.args.mesh.now c.count-count.ensures.sides c.args.k _ _ _ (c.across.ensures.none, c.across.ensures.some)
    (c.across-2.ensures.none, c.across-2.ensures.some) (c.across-3.ensures.none, c.across-3.ensures.some)
