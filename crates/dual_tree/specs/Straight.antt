-- A list of points without those at which the way along it goes straight on. This project's own.
use Rattle.std.specs.Prelude.{List, [], ◌∷◌}
use Rattle.plane.specs.Point.{Point, whole}
use Rattle.exact_plane.specs.Direction.{turn_of}
use Rattle.exact_plane.specs.declared.direction.Direction.{Direction}
use Rattle.exact_plane.specs.declared.direction.Direction.TheVariants.{Left, Right, Straight}

-- the points with p before them, unless the turn is straight
abbrev pub unless_straight : Direction → Point → List Point → List Point
unless_straight Straight p ps = ps
unless_straight Left p ps = p ∷ ps
unless_straight Right p ps = p ∷ ps

-- what is left of the points that come after p: the last one, and of the others those at which the way turns
abbrev pub left_after : Point → List Point → List Point
left_after p [] = []
left_after p (q ∷ []) = q ∷ []
left_after p (q ∷ r ∷ rest) = unless_straight (turn_of (whole p) (whole q) (whole r)) q (left_after q (r ∷ rest))

-- the first point, the last one, and of the others those at which the turn from the point before to the point after, in the whole
-- list, isn't straight
abbrev pub without_straight : List Point → List Point
without_straight [] = []
without_straight (p ∷ rest) = p ∷ left_after p rest
