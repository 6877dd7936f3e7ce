-- The names that a walk gives from nothing, and their points.
use Rattle.std.proofs.Common.{◌≡◌, ◌∙◌, List, [], ◌∷◌, ◌++◌, ap}
use Rattle.plane.specs.Point.{Point}
use Rattle.rings.specs.Chain.{IsPath}
use Rattle.exact_plane.specs.Spot.{point_named}
use Rattle.exact_plane.specs.declared.turns.Spot.{Spot}
use Rattle.exact_plane.specs.declared.turns.Spot.TheVariants.{Start}
use Rattle.exact_plane.specs.Names.{AppendsNames, AreNamed, named_points}

module _ (corners : List Point) (s t : Point) (names given : List Spot) (empty : given ≡ [])
    (walked : AppendsNames corners s t (IsPath corners s t) given names) where
  -- they are all of them
  all : names ≡ Start ∷ walked.others
  all = walked.appended ∙ ap (λ before. before ++ (Start ∷ walked.others)) empty

  pub names_named : AreNamed corners names
  names_named = rw all walked.named

  -- the path in the ring and between the two points that the board was made of
  pub names_path : (ring : List Point) (from to : Point) → corners ≡ ring → s ≡ from → t ≡ to
      → IsPath ring from to (named_points (point_named corners s t) names)
  names_path ring from to same same_s same_t = rw (← same, ← same_s, ← same_t, all) walked.points
