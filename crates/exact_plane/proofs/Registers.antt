-- Numbers as a function computes them: through a register.
use Rattle.std.proofs.Common.{◌≡◌, ◌<◌, ◌^◌, ℤ, w64, arith}
use Rattle.std.proofs.lemmas.Int.{ints, to_z-of_z}
use Rattle.std.specs.Prelude.{unsigned_abs}
use mir.Syntax.{w32, w128}
use mir.Val.{of_z, to_z}
use Rattle.plane.specs.Point.{IsInLimit}

-- a coordinate as it is read from a register of 32 bits
abbrev pub short : ℤ → ℤ
short z = to_z w32 (of_z w32 z)

-- a number from one of 64 bits
abbrev pub read : ℤ → ℤ
read z = to_z w64 (of_z w64 z)

-- and from one of 128 bits
abbrev pub wide : ℤ → ℤ
wide z = to_z w128 (of_z w128 z)

-- a coordinate is read as it is
pub read_is : (z : ℤ) → IsInLimit z → read z ≡ z
read_is z small = to_z-of_z w64 z (omega (arith, ints))

-- and so is a number of 32 bits whose opposite has them too
pub short_is : (z : ℤ) → unsigned_abs z < 2 ^ 31 → short z ≡ z
short_is z small = to_z-of_z w32 z (omega (arith, ints))
