use Rattle.exact_plane.proofs.Triangles.{outside_not_in}
use Rattle.exact_plane.proofs.triangle.is_apart.Goals as goal

pub returns-clause-apart : goal.returns-clause-apart
returns-clause-apart g c = λ apart is. outside_not_in _ _ _ _ c.requires.counterclockwise (c.is_outside_box.ensures.0 apart) is
