-- Points by parts that are kept beside them.
use Rattle.std.proofs.Common.{◌≡◌, ℤ, ◌*ℤ◌, subst, sym}
use Rattle.std.specs.Ordering.{int_cmp, ordering_then}
use Rattle.std.specs.declared.cmp.Ordering.{Ordering}
use Rattle.plane.specs.Point.{Triple}
use Rattle.exact_plane.proofs.Comparing.{TellsOrder, comparison_tells}
use Rattle.exact_plane.proofs.Registers.{wide}
use Rattle.exact_plane.specs.Size.{IsSized}

-- the parts of a point
abbrev pub made_of : ℤ → ℤ → ℤ → Triple
made_of x y w = record { X = x; Y = y; W = w }

-- numbers that are the parts of a point make it
pub made_is : (p : Triple) (x y w : ℤ) → x ≡ p.X → y ≡ p.Y → w ≡ p.W → made_of x y w ≡ p
made_is p x y w ex ey ew = λ i. record { X = ex i; Y = ey i; W = ew i }

-- a comparison of two points by such numbers
pub compared_by_parts : (p q : Triple) (x y w u v t : ℤ) (r s o : Ordering) → made_of x y w ≡ p → made_of u v t ≡ q → IsSized p → IsSized q
    → r ≡ int_cmp (wide x *ℤ wide t) (wide u *ℤ wide w) → s ≡ int_cmp (wide y *ℤ wide t) (wide v *ℤ wide w)
    → o ≡ ordering_then r s → TellsOrder o p q
compared_by_parts p q x y w u v t r s o is_p is_q sized_p sized_q er es eo =
    comparison_tells (made_of x y w) (made_of u v t) p q r s o (subst IsSized (sym is_p) sized_p) (subst IsSized (sym is_q) sized_q) is_p is_q er es eo
