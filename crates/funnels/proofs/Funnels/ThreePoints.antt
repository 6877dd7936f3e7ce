-- What holds of three points, as a turn, holds of the same points by other names.
use Rattle.std.proofs.Common.{◌≡◌, sym, subst}
use Rattle.plane.specs.Prelude.{IsLeft, IsRight, Point, whole}

-- what holds of three points holds of the same by other names
pub by_points : (T : Point → Point → Point → Type 0) (p q s u v w : Point) → u ≡ p → v ≡ q → w ≡ s → T p q s → T u v w
by_points T p q s u v w e f g t =
    subst (λ (z : Point). T z v w) (sym e) (subst (λ (z : Point). T p z w) (sym f) (subst (λ (z : Point). T p q z) (sym g) t))

-- turns of three whole points: to the left,
abbrev pub turns_left : Point → Point → Point → Type 0
turns_left u v w = IsLeft (whole u) (whole v) (whole w)

-- to the right,
abbrev pub turns_right : Point → Point → Point → Type 0
turns_right u v w = IsRight (whole u) (whole v) (whole w)

-- and not to the left
abbrev pub turns_not_left : Point → Point → Point → Type 0
turns_not_left u v w = ¬ IsLeft (whole u) (whole v) (whole w)
