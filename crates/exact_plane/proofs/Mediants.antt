-- The mediant of two narrow points as it is computed, and what follows of it.
use Rattle.std.proofs.Common.{◌≡◌, ◌∙◌, subst, sym, ◌<◌, ◌^◌, ◌+ℤ◌, ℤ, arith}
use mir.Syntax.{w128}
use Rattle.std.proofs.lemmas.Int.{ints, to_z-of_z}
use Rattle.std.specs.Prelude.{FitsSigned, unsigned_abs}
use Rattle.plane.proofs.Meetings.{mediant_not_first, mediant_not_second, mediant_on}
use Rattle.plane.specs.Line.{mediant}
use Rattle.plane.specs.Point.{IsPoint, Triple}
use Rattle.plane.specs.Segment.{On}
use Rattle.exact_plane.proofs.Registers.{wide}
use Rattle.exact_plane.specs.Size.{IsSized}

-- all that a caller is told of it
pub ruleset mediants = (mediant_not_first, mediant_not_second)

-- a sum is computed as it is
sum_read : (x y : ℤ) → unsigned_abs x < 2 ^ 75 → unsigned_abs y < 2 ^ 75 → wide (wide x +ℤ wide y) ≡ x +ℤ y
sum_read x y small_x small_y =
    let fits_x : FitsSigned w128 x = omega (arith, ints) in
    let fits_y : FitsSigned w128 y = omega (arith, ints) in
    let fits_sum : FitsSigned w128 (x +ℤ y) = omega (arith, ints) in
    simp to_z-of_z

-- what the parts of two points are summed up to
pub mediant_read : (P Q p q : Triple) → IsSized P → IsSized Q → P ≡ p → Q ≡ q
    → record { X = wide (wide P.X +ℤ wide Q.X); Y = wide (wide P.Y +ℤ wide Q.Y); W = wide (wide P.W +ℤ wide Q.W) } ≡ mediant p q
mediant_read P Q p q a b is_p is_q =
    let in_X = sum_read P.X Q.X a.X_small b.X_small in
    let in_Y = sum_read P.Y Q.Y a.Y_small b.Y_small in
    let in_W = sum_read P.W Q.W (omega (arith, a.W_small)) (omega (arith, b.W_small)) in
    (λ i. record { X = in_X i; Y = in_Y i; W = in_W i }) ∙ (λ i. mediant (is_p i) (is_q i))

-- they are those of a point on the segment
pub mediant_is_on : (P Q p q m : Triple) → IsSized P → IsSized Q → P ≡ p → Q ≡ q → m ≡ mediant p q → On m p q
mediant_is_on P Q p q m a b is_p is_q is =
    subst (λ n. On n p q) (sym is) (mediant_on p q (subst IsPoint is_p a.rational) (subst IsPoint is_q b.rational))
