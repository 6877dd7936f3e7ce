use Rattle.std.proofs.Common.{◌≡◌}
use Rattle.std.specs.Prelude.{take}
use Rattle.geo_c.specs.Held.{talk_of}
use Rattle.geo_c.specs.Many.{ArePlacesTold}
use Rattle.geo_c.proofs.many.tell_places.Given as goal

-- the first points have their places
abbrev pub invariant-points : goal.invariant-points
invariant-points g l = record {
  same : l.session.held ≡ l.fn.session.held;
  told : ArePlacesTold (talk_of l.fn.session.held) (take l.i l.points) l.fn.places l.places;
}
