-- Which way three points turn, by the sign of a determinant: the orientation test of Preparata and Shamos 1985.
use Rattle.std.specs.Prelude.{◌≡◌, ℤ, pos, ◌+ℤ◌, ◌-ℤ◌, ◌*ℤ◌, ◌<ℤ◌}
use Rattle.plane.specs.Point.{Triple}

-- the determinant with these rows: positive where a, b, c run counterclockwise
abbrev pub determinant : Triple → Triple → Triple → ℤ
determinant a b c =
    (a.X *ℤ ((b.Y *ℤ c.W) -ℤ (c.Y *ℤ b.W))) -ℤ (a.Y *ℤ ((b.X *ℤ c.W) -ℤ (c.X *ℤ b.W)))
    +ℤ (a.W *ℤ ((b.X *ℤ c.Y) -ℤ (c.X *ℤ b.Y)))

-- the turn from a over b to c is to the left; to the right; neither
abbrev pub IsLeft : Triple → Triple → Triple → Type 0
IsLeft a b c = pos 0 <ℤ determinant a b c

abbrev pub IsRight : Triple → Triple → Triple → Type 0
IsRight a b c = determinant a b c <ℤ pos 0

abbrev pub IsStraight : Triple → Triple → Triple → Type 0
IsStraight a b c = determinant a b c ≡ pos 0
