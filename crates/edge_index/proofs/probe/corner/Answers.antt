use Rattle.std.proofs.Common.{◌∙◌, sym}
use Rattle.rings.proofs.Vertices.{vertex_in_range}
use Rattle.edge_index.proofs.probe.corner.Goals as goal

pub returns-then-i-points : goal.returns-then-i-points
returns-then-i-points c = c.index-points-i.is ∙ sym (vertex_in_range c.args.points.now c.args.i c.index-points-i.result c.if-i-points.true)
