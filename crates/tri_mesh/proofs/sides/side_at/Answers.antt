use Rattle.std.proofs.Common.{refl, ◌<◌, length, arith}
use Rattle.tri_mesh.proofs.SideLists.{length-sides, read_side}
use Rattle.tri_mesh.proofs.sides.side_at.Goals as goal

pub bounds-tris-tri : goal.bounds-tris-tri
bounds-tris-tri c = omega (arith, c.requires.number, c.requires.place, length-sides c.args.tris.now c.args.befores.now)

pub bounds-befores-p : goal.bounds-befores-p
bounds-befores-p c = omega (arith, c.requires.place, length-sides c.args.tris.now c.args.befores.now)

pub returns : goal.returns
returns c =
    let below : c.args.p < length c.args.befores.now = omega (arith, c.requires.place, length-sides c.args.tris.now c.args.befores.now) in
    rw (read_side c.args.tris.now c.args.befores.now c.args.p below) (rw (c.min.ensures, c.max.ensures, c.last_up_to.ensures, c.side_ends-from.ensures) refl)
