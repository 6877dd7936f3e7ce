use Rattle.std.proofs.Common.{◌≡◌, length, refl, arith, ap, ap₂, Err}
use Rattle.std.proofs.lemmas.List.{with_items_is}
use Rattle.rings.proofs.Simple.{least_clash_is_one, no_least_clash}
use Rattle.rings.specs.Simple.{IsLeastClash, IsSimple}
use Rattle.ring_check.proofs.Oriented.{counterclockwise_oriented, length-oriented, simple_oriented}
use Rattle.ring_check.proofs.ring.Ring.of_pairs.Goals as goal
use Rattle.ring_check.specs.Oriented.{oriented}
use Rattle.ring_check.specs.declared.ring.RingFault.TheVariants as fault

pub returns-in-Some-clause-accepted : goal.returns-in-Some-clause-accepted
returns-in-Some-clause-accepted g c =
    let least : IsLeastClash c.args.points.items c.in-Some.i c.in-Some.j = rw c.deref.ensures.value at c.in-Some.ensures.least in
    (λ h. absurd cc, λ simple. absurd (no_least_clash _ _ _ simple least))

pub returns-in-Some-clause-clash : goal.returns-in-Some-clause-clash
returns-in-Some-clause-clash g c =
    let least : IsLeastClash c.args.points.items c.in-Some.i c.in-Some.j = rw c.deref.ensures.value at c.in-Some.ensures.least in
    λ i j. (
      λ e.
          let first : c.in-Some.i ≡ i = cc in
          let second : c.in-Some.j ≡ j = cc in
          rw (← first, ← second) least,
      λ other.
          let one = least_clash_is_one _ _ _ _ _ least other in
          ap₂ (λ i j. Err (fault.Clash i j)) one.0 one.1,
    )

pub returns-in-None-clause-accepted : goal.returns-in-None-clause-accepted
returns-in-None-clause-accepted g c =
    let simple : IsSimple c.args.points.items = rw c.deref.ensures.value at c.in-None.ensures.simple in
    (λ _. simple, λ _. refl)

pub returns-in-None-clause-clash : goal.returns-in-None-clause-clash
returns-in-None-clause-clash g c =
    let simple : IsSimple c.args.points.items = rw c.deref.ensures.value at c.in-None.ensures.simple in
    λ i j. (λ e. absurd cc, λ other. absurd (no_least_clash _ _ _ simple other))

-- the list is kept counterclockwise, is as long and as simple, and can be had back
pub invariant_of-result : goal.invariant_of-result
invariant_of-result g c =
    let points = c.args.points.items in
    let kept = c.turn_counterclockwise-is_turned.new.points in
    let is : kept ≡ (oriented points).corners = rw c.deref_mut.ensures.value at c.turn_counterclockwise-is_turned.ensures.points in
    let long : length kept ≡ c.args.points.len = omega (arith, ap length is, length-oriented points) in
    let simple : IsSimple points = rw c.deref.ensures.value at c.in-None.ensures.simple in
    rw (with_items_is c.args.points kept long, is)
    (omega arith, omega arith, simple_oriented points simple, counterclockwise_oriented points (omega arith) simple, tt)
