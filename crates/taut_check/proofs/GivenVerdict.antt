-- The verdict on a list in a ring is that in the list that the ring was made of.
use Rattle.std.proofs.Common.{Bool, true, false, List}
use Rattle.std.specs.Prelude.{if◌then◌else◌}
use Rattle.plane.specs.Point.{Point}
use Rattle.rings.proofs.Inside.{neighbours_turned_iff, reflex_turned_iff, sees_turned_iff, in_turned_iff}
use Rattle.rings.specs.Orientation.{turned_round}
use Rattle.ring_check.specs.Oriented.{Oriented, given_of}
use Rattle.taut_check.proofs.SameRules.{SameRules, same_verdict, swapped}
use Rattle.taut_check.specs.Verdict.{IsVerdict}
use Rattle.taut_check.specs.declared.verdict.Verdict.{Verdict}

-- a ring that is turned round
turned_same : (ring : List Point) → SameRules (turned_round ring) ring
turned_same ring = record {
  inside = λ p. in_turned_iff p ring;
  sees = sees_turned_iff ring;
  reflex = reflex_turned_iff ring;
  neighbours = neighbours_turned_iff ring;
}

given_same : (turned : Bool) (ring : List Point) → SameRules ring (if turned then turned_round ring else ring)
given_same true ring = swapped (turned_same ring)
given_same false ring = record { inside = λ p. (λ h. h, λ h. h); sees = λ p q. (λ h. h, λ h. h); reflex = λ v. (λ h. h, λ h. h); neighbours = λ u v. (λ h. h, λ h. h) }

-- the verdict on a list of points in a ring, for the list that the ring was made of
pub verdict_given : (ring : Oriented) (points : List Point) (found : Verdict) → IsVerdict ring.corners points found → IsVerdict (given_of ring) points found
verdict_given ring points found = same_verdict ring.corners (given_of ring) points (given_same ring.is_turned ring.corners) found
