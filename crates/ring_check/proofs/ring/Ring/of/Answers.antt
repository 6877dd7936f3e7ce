use Rattle.std.proofs.Common.{◌≡◌, length, refl, sym, subst, arith, ap, ap₂, ◌∙◌, ◌↔◌, Err, IsOk}
use Rattle.std.proofs.lemmas.List.{with_items_is}
use Rattle.std.specs.Vec.{with_items}
use Rattle.rings.proofs.Simple.{no_least_clash}
use Rattle.rings.specs.Simple.{IsLeastClash, IsSimple}
use Rattle.ring_check.proofs.Oriented.{counterclockwise_oriented, given_of-oriented, length-oriented, simple_of_oriented}
use Rattle.ring_check.proofs.ring.Ring.of.Given.{Over}
use Rattle.ring_check.proofs.ring.Ring.of.Goals as goal
use Rattle.ring_check.specs.Order.{IsInOrder}
use Rattle.ring_check.specs.Oriented.{given_of, oriented}
use Rattle.ring_check.specs.declared.ring.RingFault.TheVariants as fault

-- ---- the sweep was over the list as it is kept

module _ (g : Over) (c : goal.In-Some g) where
  shown : c.deref.result.now ≡ (oriented c.args.points.items).corners
  shown =
      let points = c.args.points.items in
      let kept = c.turn_counterclockwise-is_turned.new.points in
      let is : kept ≡ (oriented points).corners = rw c.deref_mut.ensures.value at c.turn_counterclockwise-is_turned.ensures.points in
      c.deref.ensures.value ∙ with_items_is c.args.points kept (omega (arith, ap length is, length-oriented points)) ∙ is

  is_simple : IsSimple c.args.points.items
  is_simple = simple_of_oriented c.args.points.items (subst IsSimple shown c.in-Some.ensures.simple)

pub invariant_of-result : goal.invariant_of-result
invariant_of-result g c =
    let points = c.args.points.items in
    let same = sym c.deref.ensures.value ∙ shown g c in
    rw same (
      omega arith,
      omega arith,
      subst IsSimple (shown g c) c.in-Some.ensures.simple,
      counterclockwise_oriented points (omega arith) (is_simple g c),
      subst (λ corners. IsInOrder corners c.in-Some.order.items) (shown g c) c.in-Some.ensures.order,
    )

pub returns-in-Some-clause-accepted : goal.returns-in-Some-clause-accepted
returns-in-Some-clause-accepted g c = (λ _. (omega arith, omega arith, is_simple g c), λ _. refl)

pub returns-in-Some-clause-clash : goal.returns-in-Some-clause-clash
returns-in-Some-clause-clash g c = λ i j. (λ e. absurd cc, λ other. absurd (no_least_clash _ _ _ (is_simple g c) other.2))

-- ---- the pairs are those of the list as it was given

module _ (g : Over) (c : goal.After-of_pairs g) where
  back : (with_items (with_items c.args.points c.turn_counterclockwise-is_turned.new.points) c.turn_back.new.points).items ≡ c.args.points.items
  back =
      let points = c.args.points.items in
      let kept = c.turn_counterclockwise-is_turned.new.points in
      let is : kept ≡ (oriented points).corners = rw c.deref_mut.ensures.value at c.turn_counterclockwise-is_turned.ensures.points in
      let turned = rw c.deref_mut.ensures.value at c.turn_counterclockwise-is_turned.ensures.turned in
      let read = c.deref_mut-in-None.ensures.value ∙ with_items_is c.args.points kept (omega (arith, ap length is, length-oriented points)) ∙ is in
      let given : c.turn_back.new.points ≡ points =
      c.turn_back.ensures ∙ ap₂ (λ corners is_turned. given_of (record { corners = corners; is_turned = is_turned })) read turned
      ∙ given_of-oriented points in
      with_items_is (with_items c.args.points kept) c.turn_back.new.points (omega (arith, ap length given)) ∙ given

  accepted : IsOk c.of_pairs.result ↔ IsSimple c.args.points.items
  accepted = subst (λ points. IsOk c.of_pairs.result ↔ IsSimple points) back c.of_pairs.ensures.accepted

pub returns-in-None-clause-accepted : goal.returns-in-None-clause-accepted
returns-in-None-clause-accepted g c =
    let is = accepted g c in
    (λ h. (omega arith, omega arith, is.0 h), λ list. is.1 list.2)

pub returns-in-None-clause-clash : goal.returns-in-None-clause-clash
returns-in-None-clause-clash g c = λ i j.
    let is = subst (λ points. (c.of_pairs.result ≡ Err (fault.Clash i j)) ↔ IsLeastClash points i j) (back g c) (c.of_pairs.ensures.clash i j) in
    (λ h. (omega arith, omega arith, is.0 h), λ list. is.1 list.2)
