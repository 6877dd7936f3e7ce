-- Numbers of vertices in the list that a ring was made of.
use Rattle.std.proofs.Common.{◌≡◌, ℤ, ◌<◌, ◌≤◌, length, arith}
use Rattle.std.proofs.lemmas.Int.{ints}
use Rattle.std.specs.Int.{FitsUnsignedBits}
use Rattle.plane.specs.declared.limits.TheConstants.{MAX_CORNERS}
use Rattle.ring_check.specs.Oriented.{Oriented, given_of}
use Rattle.geo_session.proofs.GivenSize.{length_either}
use Rattle.geo_session.specs.Pairs.{IsIndex}

module _ (ring : Oriented) where
  pub length_given : length (given_of ring) ≡ length ring.corners
  length_given = length_either ring.is_turned ring.corners

  -- they fit 32 bits
  pub index_fits : (z : ℤ) → length ring.corners ≤ MAX_CORNERS → IsIndex (given_of ring) z → FitsUnsignedBits 32 z
  index_fits z few h =
      let below : h.0 < length (given_of ring) = h.1.in_ring in
      let small : h.0 < 4294967296 = omega (arith, few, below, length_given) in
      rw h.1.is (omega (arith, ints, small))
