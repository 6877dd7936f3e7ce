use Rattle.std.proofs.Common.{ap, subst}
use Rattle.plane.specs.Region.{AreCorners}
use Rattle.half_cut.proofs.TurnedBlocks.{corners_kept}
use Rattle.half_cut.proofs.region.Region.count.Goals as goal
use Rattle.half_cut.specs.Outline.{Outline}

pub returns-clause-corners : goal.returns-clause-corners
returns-clause-corners c =
    subst AreCorners (ap (λ (r : Outline). r.corners) c.self.view_is)
    (corners_kept c.self.inside.corners.items c.self.inside.lines.items c.self.inside.least c.self.invariant)
