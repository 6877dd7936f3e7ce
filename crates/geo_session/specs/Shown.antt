-- The points that are told of a path, by the version of the script. This project's own.
use Rattle.std.specs.Prelude.{◌≡◌, List}
use Rattle.plane.specs.Point.{Point}
use Rattle.rings.specs.Chain.{IsPath}
use Rattle.rings.specs.Full.{IsFull}
use Rattle.geo_text.specs.declared.version.Version.{Version}
use Rattle.geo_text.specs.declared.version.Version.TheVariants as version

-- in version 1 those of the chain alone; in version 2 also all vertices that it touches
abbrev pub IsShown : Version → List Point → List Point → List Point → Type 0
IsShown version.One ring chain shown = shown ≡ chain
IsShown version.Two ring chain shown = IsFull ring chain shown

-- the points are those that are told of the path from s to t
pub record IsShownPath (version : Version) (ring : List Point) (s t : Point) (shown : List Point) : Type 0 where
  pub chain : List Point
  pub is_path : IsPath ring s t chain
  pub is_shown : IsShown version ring chain shown
