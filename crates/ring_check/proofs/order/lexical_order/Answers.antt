use Rattle.std.proofs.Common.{◌≡◌, map, length}
use Rattle.std.proofs.lemmas.Result.{IfOk-weaker}
use Rattle.rings.specs.Simple.{IsSimple}
use Rattle.ring_check.proofs.Orders.{in_order, moved_numbers}
use Rattle.ring_check.specs.Keys.{keyed_number}
use Rattle.ring_check.specs.Order.{IsInOrder}
use Rattle.ring_check.proofs.order.lexical_order.Goals as goal

pub returns-clause-all : goal.returns-clause-all
returns-clause-all g c =
    let ring = c.args.points.now in
    let keys = c.in_ok-keys.keys.items in
    let sorted = c.sort_unstable.new.self.items in
    IfOk-weaker c.numbers_of.result (λ numbers. numbers.items ≡ map keyed_number c.deref.result.now)
    (λ order. length order.items ≡ length ring)
    (λ order is. rw (is, c.deref.ensures.value) (moved_numbers ring c.requires keys c.in_ok-keys.ensures.keys sorted c.sort_unstable.ensures.permutation))
    c.numbers_of.ensures

pub returns-clause-order : goal.returns-clause-order
returns-clause-order g c =
    let ring = c.args.points.now in
    let keys = c.in_ok-keys.keys.items in
    let sorted = c.sort_unstable.new.self.items in
    IfOk-weaker c.numbers_of.result (λ numbers. numbers.items ≡ map keyed_number c.deref.result.now)
    (λ order. IsSimple ring → IsInOrder ring order.items)
    (λ order is. rw (is, c.deref.ensures.value)
    (λ simple. in_order ring c.requires simple keys c.in_ok-keys.ensures.keys sorted c.sort_unstable.ensures.permutation c.sort_unstable.ensures.sorted))
    c.numbers_of.ensures
