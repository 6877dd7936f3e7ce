-- Turnings at a vertex, to the left or on the other side to the right, are such functions as fans are made of.
use Rattle.std.proofs.Common.{◌≡◌, Bool, true, false, not, sym, ap, ◌∙◌, ℤ, pos, ◌+ℤ◌, ◌-ℤ◌, ◌*ℤ◌, neg_ℤ, ◌<ℤ◌, arith}
use Rattle.std.proofs.lemmas.Int.{ints}
use Rattle.integer_algebra.proofs.Laws.{mul-neg, neg-mul, neg_neg}
use Rattle.integer_algebra.proofs.SignSteps.{own_opposite, positive_not_zero}
use Rattle.plane.proofs.Turns.{IsCombination, determinant_along, determinant_swap_last, five_triples}
use Rattle.plane.specs.Point.{Point, Triple, whole}
use Rattle.funnels.specs.Fanned.{turning}

-- a turning changes its sign where the two change places
pub turning_swap : (side : Bool) (v : Point) (a b : Triple) → turning side v b a ≡ neg_ℤ (turning side v a b)
turning_swap true v a b = determinant_swap_last (whole v) a b
turning_swap false v a b = ap neg_ℤ (determinant_swap_last (whole v) a b)

-- one on the other side is the turning back
pub turning_not : (side : Bool) (v : Point) (a b : Triple) → turning (not side) v a b ≡ turning side v b a
turning_not true v a b = sym (determinant_swap_last (whole v) a b)
turning_not false v a b = determinant_swap_last (whole v) b a

-- nothing is ahead of itself
pub not_ahead_of_itself : (side : Bool) (v : Point) (a : Triple) → ¬ (pos 0 <ℤ turning side v a a)
not_ahead_of_itself side v a ahead = positive_not_zero ahead (own_opposite (turning_swap side v a a))

-- the product of two opposites
opposites : (x y : ℤ) → neg_ℤ x *ℤ neg_ℤ y ≡ x *ℤ y
opposites x y = neg-mul x (neg_ℤ y) ∙ ap neg_ℤ (mul-neg x y) ∙ neg_neg (x *ℤ y)

-- three such products in place of the products
all_opposites : (u v w x y z : ℤ) → u *ℤ v -ℤ w *ℤ x +ℤ y *ℤ z ≡ pos 0
    → neg_ℤ u *ℤ neg_ℤ v -ℤ neg_ℤ w *ℤ neg_ℤ x +ℤ neg_ℤ y *ℤ neg_ℤ z ≡ pos 0
all_opposites u v w x y z h = omega (arith, ints, opposites u v, opposites w x, opposites y z, h)

-- any four directions are related
pub turning_four : (side : Bool) (v : Point) (a b c d : Triple) →
    turning side v a b *ℤ turning side v c d -ℤ turning side v a c *ℤ turning side v b d +ℤ turning side v a d *ℤ turning side v b c
    ≡ pos 0
turning_four true v a b c d = five_triples (whole v) a b c d
turning_four false v a b c d =
    let at = turning true v in
    all_opposites (at a b) (at c d) (at a c) (at b d) (at a d) (at b c) (five_triples (whole v) a b c d)

-- the opposite of a mean
opposite_mean : (k l m z f g : ℤ) → k *ℤ z ≡ l *ℤ f +ℤ m *ℤ g → k *ℤ neg_ℤ z ≡ l *ℤ neg_ℤ f +ℤ m *ℤ neg_ℤ g
opposite_mean k l m z f g e = omega (arith, ints, mul-neg k z, mul-neg l f, mul-neg m g)

-- a turning along a segment is a mean of those at its ends
pub turning_along : (side : Bool) (p a b : Triple) (c : IsCombination p a b) (v : Point) (w : Triple)
    → c.k *ℤ turning side v w p ≡ c.l *ℤ turning side v w a +ℤ c.m *ℤ turning side v w b
turning_along true p a b c v w = determinant_along p a b c (whole v) w
turning_along false p a b c v w = opposite_mean c.k c.l c.m _ _ _ (determinant_along p a b c (whole v) w)
