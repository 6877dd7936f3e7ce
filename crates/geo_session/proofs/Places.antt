-- Where a point is in the list that a ring was made of.
use Rattle.std.proofs.Common.{◌≡◌, ◌↔◌, refl}
use Rattle.plane.specs.Point.{Point, whole}
use Rattle.rings.proofs.Inside.{on_some_either}
use Rattle.rings.specs.Edge.{IsOnSome, edges_of}
use Rattle.rings.specs.Inside.{IsIn}
use Rattle.ring_check.specs.Oriented.{Oriented, given_of}
use Rattle.inside_test.specs.declared.position.Position.{Position}
use Rattle.inside_test.specs.declared.position.Position.TheVariants as position
use Rattle.geo_session.proofs.GivenPath.{in_given_iff}
use Rattle.geo_session.specs.Place.{IsPlace}

-- in the list that the ring was made of a point is where it is in the ring
pub placed_given : (ring : Oriented) (p : Point) (found : Position) → ((found ≡ position.Edge) ↔ IsOnSome (edges_of ring.corners) (whole p))
    → ((found ≡ position.Inside) ↔ (IsIn ring.corners (whole p) × ¬ (IsOnSome (edges_of ring.corners) (whole p))))
    → ((found ≡ position.Outside) ↔ ¬ (IsIn ring.corners (whole p))) → IsPlace (given_of ring) p found
placed_given ring p position.Edge at_edge at_inside at_outside = (on_some_either (whole p) ring.is_turned ring.corners).1 (at_edge.0 refl)
placed_given ring p position.Inside at_edge at_inside at_outside =
    let h = at_inside.0 refl in
    ((in_given_iff ring (whole p)).1 h.0, λ on. h.1 ((on_some_either (whole p) ring.is_turned ring.corners).0 on))
placed_given ring p position.Outside at_edge at_inside at_outside = λ within. at_outside.0 refl ((in_given_iff ring (whole p)).0 within)
