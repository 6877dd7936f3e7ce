-- Lists of names of points. This project's own.
use Rattle.std.specs.List.{All}
use Rattle.std.specs.Prelude.{◌≡◌, ℕ, List, [], ◌∷◌, ◌++◌, map, slice_index_or}
use Rattle.plane.specs.Point.{Point}
use Rattle.exact_plane.specs.Spot.{IsNamed, point_named}
use Rattle.exact_plane.specs.declared.turns.Spot.{Spot}
use Rattle.exact_plane.specs.declared.turns.Spot.TheVariants.{Start}

-- the name at a place
abbrev pub name_at : List Spot → ℕ → Spot
name_at names i = slice_index_or names i Start

-- the points that they stand for
abbrev pub named_points : (Spot → Point) → List Spot → List Point
named_points at names = map at names

-- each stands for a point
abbrev pub AreNamed : List Point → List Spot → Type 0
AreNamed corners names = All (IsNamed corners) names

-- names were appended: the start, alone where it is the goal's point, and then others; and what is said holds of their points
pub record AppendsNames (corners : List Point) (start goal : Point) (Holds : List Point → Type 0) (out out' : List Spot) : Type 0 where
  pub others : List Spot
  pub appended : out' ≡ out ++ Start ∷ others
  pub alone : start ≡ goal → others ≡ []
  pub named : AreNamed corners (Start ∷ others)
  pub points : Holds (named_points (point_named corners start goal) (Start ∷ others))
