use Rattle.star_kernel.proofs.HalfPlanes.{ends_differ}
use Rattle.star_kernel.proofs.half_planes.cut_along.Goals as goal

pub cut_away-requires-clause-differ : goal.cut_away-requires-clause-differ
cut_away-requires-clause-differ g c =
    ends_differ c.args.ring.now.corners c.len-corners.ensures.size.0 c.len-corners.ensures.simple c.args.number c.requires.number
    c.corner.result c.next.result c.corner.ensures c.next.ensures
