-- What a script takes, by its version. This project's own.
use Rattle.std.specs.Prelude.{◌≤◌}
use Rattle.plane.specs.declared.limits.TheConstants.{MAX_CHAIN, MAX_COORDINATE, MAX_CORNERS}
use Rattle.geo_text.specs.declared.limits.Limits.{Limits}
use Rattle.geo_text.specs.declared.version.Version.{Version}
use Rattle.geo_text.specs.declared.version.Version.TheVariants as version

-- version 2 has those of the plane, and version 1 has narrower ones
abbrev pub limits_of : Version → Limits
limits_of version.One = record { coordinate = 1000000; corners = 4096; chain = 4096 }
limits_of version.Two = record { coordinate = MAX_COORDINATE; corners = MAX_CORNERS; chain = MAX_CHAIN }

-- no version takes more than version 2
pub record IsLimited (limits : Limits) : Type 0 where
  pub coordinate : limits.coordinate ≤ MAX_COORDINATE
  pub some_corners : 3 ≤ limits.corners
  pub corners : limits.corners ≤ MAX_CORNERS
  pub some_chain : 1 ≤ limits.chain
  pub chain : limits.chain ≤ MAX_CHAIN
