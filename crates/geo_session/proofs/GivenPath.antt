-- The path in a ring is that in the list that the ring was made of, and the same points are in both.
use Rattle.std.proofs.Common.{◌↔◌, Bool, true, false, if◌then◌else◌, List}
use Rattle.plane.specs.Point.{Point, Triple}
use Rattle.rings.proofs.Inside.{in_either}
use Rattle.rings.specs.Chain.{IsPath}
use Rattle.rings.specs.Inside.{IsIn}
use Rattle.rings.specs.Orientation.{turned_round}
use Rattle.ring_laws.proofs.Simple.{taut_turned_iff}
use Rattle.ring_check.specs.Oriented.{Oriented, given_of}

-- so the path is the same
pub path_either : (turned : Bool) (ring : List Point) (s t : Point) (path : List Point) → IsPath ring s t path
    → IsPath (if turned then turned_round ring else ring) s t path
path_either true ring s t path is =
    λ chain. let same = taut_turned_iff ring s t chain in (λ h. (is chain).0 (same.0 h), λ e. same.1 ((is chain).1 e))
path_either false ring s t path is = is

path_from_either : (turned : Bool) (ring : List Point) (s t : Point) (path : List Point) → IsPath (if turned then turned_round ring else ring) s t path
    → IsPath ring s t path
path_from_either true ring s t path is =
    λ chain. let same = taut_turned_iff ring s t chain in (λ h. (is chain).0 (same.1 h), λ e. same.0 ((is chain).1 e))
path_from_either false ring s t path is = is

module _ (ring : Oriented) where
  -- in the list that the ring was made of,
  pub path_given : (s t : Point) (path : List Point) → IsPath ring.corners s t path → IsPath (given_of ring) s t path
  path_given s t path is = path_either ring.is_turned ring.corners s t path is

  pub path_held : (s t : Point) (path : List Point) → IsPath (given_of ring) s t path → IsPath ring.corners s t path
  path_held s t path is = path_from_either ring.is_turned ring.corners s t path is

  -- and the points in it
  pub in_given_iff : (p : Triple) → IsIn (given_of ring) p ↔ IsIn ring.corners p
  in_given_iff p = in_either p ring.is_turned ring.corners
