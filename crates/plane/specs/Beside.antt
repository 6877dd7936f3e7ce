-- A segment that lies to one side of a line. This project's own.
use Rattle.std.specs.Prelude.{◌⊎◌}
use Rattle.plane.specs.Point.{Point, whole}
use Rattle.plane.specs.Turn.{IsLeft, IsRight}

-- c and d are both left of the line from a to b, or both right of it
abbrev pub IsBeside : Point → Point → Point → Point → Type 0
IsBeside a b c d =
    (IsLeft (whole a) (whole b) (whole c) × IsLeft (whole a) (whole b) (whole d))
    ⊎ (IsRight (whole a) (whole b) (whole c) × IsRight (whole a) (whole b) (whole d))
