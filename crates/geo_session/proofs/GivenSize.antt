-- The list that a ring was made of has as many points as the ring.
use Rattle.std.proofs.Common.{◌≡◌, List, length, Bool, true, false, Some, refl}
use Rattle.std.specs.Prelude.{if◌then◌else◌}
use Rattle.plane.specs.Point.{Point}
use Rattle.rings.proofs.Turned.{length-turned_round}
use Rattle.rings.specs.Orientation.{turned_round}
use Rattle.geo_session.specs.Held.{HeldRing, kept_of}
use Rattle.geo_session.specs.State.{size_of}

pub length_either : (turned : Bool) (ring : List Point) → length (if turned then turned_round ring else ring) ≡ length ring
length_either true ring = length-turned_round ring
length_either false ring = refl

-- so that many the state has
pub size_held : (held : HeldRing) → size_of (kept_of (Some held)) ≡ length held.ring.corners
size_held held = length_either held.ring.is_turned held.ring.corners
