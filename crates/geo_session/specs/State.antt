-- What a run holds between two records. This project's own.
use Rattle.std.specs.Prelude.{ℕ, List, length, Option, None, Some}
use Rattle.plane.specs.Point.{Point}
use Rattle.geo_text.specs.declared.version.Version.{Version}
use Rattle.geo_text.specs.declared.version.Version.TheVariants as version

-- the polygon that was accepted last, as it was given, and the source of the last tree in it, if there is one
pub record Kept : Type 0 where
  pub ring : List Point
  pub source : Option Point

-- the version of the script, and what is kept
pub record State : Type 0 where
  pub version : Version
  pub kept : Option Kept

-- at first it is of version 1, and nothing is kept
abbrev pub first_state : State
first_state = record { version = version.One; kept = None }

-- how many vertices the polygon has
abbrev pub size_of : Option Kept → ℕ
size_of None = 0
size_of (Some kept) = length kept.ring
