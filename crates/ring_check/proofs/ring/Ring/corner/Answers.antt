use Rattle.std.proofs.Common.{◌≡◌, ◌∙◌, sym, ap}
use Rattle.rings.proofs.Vertices.{vertex_in_range}
use Rattle.ring_check.proofs.ring.Ring.corner.Goals as goal
use Rattle.ring_check.specs.Oriented.{Oriented}

pub returns : goal.returns
returns c =
    let corners = c.args.self.now.corners in
    let is : c.self.inside.corners.items ≡ corners = ap (λ (ring : Oriented). ring.corners) c.self.view_is in
    rw is at c.index.ensures ∙ sym (vertex_in_range corners c.args.i c.index.result.now c.requires)
