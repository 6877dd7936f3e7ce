use Rattle.std.proofs.Common.{◌∙◌, sym}
use Rattle.rings.proofs.Vertices.{vertex_in_range}
use Rattle.polygon_tests.proofs.monotone_pieces.point_at.Goals as goal

pub returns : goal.returns
returns c = c.index-points-i.is ∙ sym (vertex_in_range c.args.points.now c.args.i c.index-points-i.result c.requires)
