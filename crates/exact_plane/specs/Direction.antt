-- The turn of three points as a `Direction`. This project's own.
use Rattle.std.specs.Prelude.{zero, suc, ℤ, pos, negsuc}
use Rattle.plane.specs.Point.{Triple}
use Rattle.plane.specs.Turn.{determinant}
use Rattle.exact_plane.specs.declared.direction.Direction.{Direction}
use Rattle.exact_plane.specs.declared.direction.Direction.TheVariants.{Left, Right, Straight}

-- the direction of a sign: positive is to the left
abbrev pub direction_of : ℤ → Direction
direction_of (pos zero) = Straight
direction_of (pos (suc n)) = Left
direction_of (negsuc n) = Right

-- the turn on the way from a over b to c
abbrev pub turn_of : Triple → Triple → Triple → Direction
turn_of a b c = direction_of (determinant a b c)

-- the other way round
abbrev pub opposite : Direction → Direction
opposite Left = Right
opposite Straight = Straight
opposite Right = Left
