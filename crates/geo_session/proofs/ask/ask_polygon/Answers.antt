use Rattle.std.proofs.Common.{◌≡◌, Err, length, refl, ap, ◌∙◌, arith, vec_len}
use Rattle.rings.specs.Simple.{IsLeastClash, IsSimple}
use Rattle.ring_check.proofs.Oriented.{given_of-oriented, length-oriented}
use Rattle.ring_check.specs.Oriented.{Oriented, given_of, oriented}
use Rattle.geo_session.proofs.Asks.{clash, taken}
use Rattle.geo_session.proofs.Paces.{polygon_made, polygon_tested}
use Rattle.geo_session.proofs.ask.ask_polygon.Goals as goal

pub returns-in_ok-new-in-Ok-clause-asked : goal.returns-in_ok-new-in-Ok-clause-asked
returns-in_ok-new-in-Ok-clause-asked g c =
    let points = c.args.points in
    let simple : IsSimple points = rw c.into_vec.ensures at (c.in-Ok.ensures.accepted.0 refl).2 in
    let ring : c.in-Ok.ring ≡ oriented points = c.in-Ok.ensures.ring ∙ ap oriented c.into_vec.ensures in
    let count : length c.in-Ok.ring.corners ≡ length points = ap (λ (r : Oriented). length r.corners) ring ∙ length-oriented points in
    let given : given_of c.in-Ok.ring ≡ points = ap given_of ring ∙ given_of-oriented points in
    let (same, none, not) = rw (← c.in_ok-new-in-Ok.ensures.ok) at c.in_ok-of-in-Ok.ensures.held in
    λ version held. taken version held points c.in_ok-new-in-Ok.field-0 c.from.result simple (c.from.ensures ∙ c.len.ensures.number ∙ count) (ap given_of same ∙ given) none not

pub returns-in-Err-Clash-clause-asked : goal.returns-in-Err-Clash-clause-asked
returns-in-Err-Clash-clause-asked g c =
    let least : IsLeastClash c.args.points c.in-Err-Clash.i c.in-Err-Clash.j =
    rw c.into_vec.ensures at ((c.in-Err-Clash.ensures.clash c.in-Err-Clash.i c.in-Err-Clash.j).0 (ap Err c.in-Err-Clash.field-0-is)).2 in
    λ version held. rw (c.unchanged.ensures, c.in-Err-Clash.field-0-is) (clash version held c.args.points c.in-Err-Clash.i c.in-Err-Clash.j least)

pub returns-in_err-of-in-Ok-clause-steps : goal.returns-in_err-of-in-Ok-clause-steps
returns-in_err-of-in-Ok-clause-steps g c =
    let count : vec_len c.into_vec.result ≡ length c.args.points = omega (arith, ap length c.into_vec.ensures) in
    polygon_made c.args.points c.in-Ok.ring c.args.steps.now c.of.new.steps c.of-in-Ok.new.steps (rw count at c.of.ensures.steps)
    (c.in-Ok.ensures.ring ∙ ap oriented c.into_vec.ensures) c.of-in-Ok.ensures.steps

pub returns-in_err-new-in-Ok-clause-steps : goal.returns-in_err-new-in-Ok-clause-steps
returns-in_err-new-in-Ok-clause-steps g c =
    let count : vec_len c.into_vec.result ≡ length c.args.points = omega (arith, ap length c.into_vec.ensures) in
    polygon_made c.args.points c.in-Ok.ring c.args.steps.now c.of.new.steps c.of-in-Ok.new.steps (rw count at c.of.ensures.steps)
    (c.in-Ok.ensures.ring ∙ ap oriented c.into_vec.ensures) c.of-in-Ok.ensures.steps

pub returns-in_ok-new-in-Ok-clause-steps : goal.returns-in_ok-new-in-Ok-clause-steps
returns-in_ok-new-in-Ok-clause-steps g c =
    let count : vec_len c.into_vec.result ≡ length c.args.points = omega (arith, ap length c.into_vec.ensures) in
    polygon_made c.args.points c.in-Ok.ring c.args.steps.now c.of.new.steps c.of-in-Ok.new.steps (rw count at c.of.ensures.steps)
    (c.in-Ok.ensures.ring ∙ ap oriented c.into_vec.ensures) c.of-in-Ok.ensures.steps

pub returns-in-Err-Clash-clause-steps : goal.returns-in-Err-Clash-clause-steps
returns-in-Err-Clash-clause-steps g c =
    let count : vec_len c.into_vec.result ≡ length c.args.points = omega (arith, ap length c.into_vec.ensures) in
    polygon_tested (length c.args.points) c.args.steps.now c.of.new.steps (rw count at c.of.ensures.steps)
