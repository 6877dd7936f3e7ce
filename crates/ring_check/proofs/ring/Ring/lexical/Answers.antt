use Rattle.std.proofs.lemmas.Result.{IfOk-weaker}
use Rattle.rings.specs.Simple.{IsSimple}
use Rattle.ring_check.specs.Order.{IsInOrder}
use Rattle.ring_check.proofs.ring.Ring.lexical.Goals as goal

pub returns-in-None-clause-order : goal.returns-in-None-clause-order
returns-in-None-clause-order g c =
    let ring = c.args.self.now.corners in
    IfOk-weaker c.lexical_order.result (λ order. IsSimple ring → IsInOrder ring order.items) (λ order. IsInOrder ring order.items)
    (λ order are. are c.len-is_simple.ensures.simple) (rw c.corners.ensures at c.lexical_order.ensures.order)
