-- Points after a given one in the order of points: their directions from it are within a half-plane, where turns to the left add up.
use Rattle.std.proofs.Common.{◌≡◌, inl, inr, subst, sym, [], ◌∷◌, refl, ℤ, pos, ◌-ℤ◌, ◌*ℤ◌, ◌<ℤ◌, ◌≤ℤ◌, arith}
use Rattle.std.proofs.lemmas.Int.{ints}
use Rattle.integer_algebra.proofs.Certificate.{positive_by, ◌⊞⁺◌, ◌⊠◌, ◌⊠⁺◌}
use Rattle.integer_algebra.proofs.Laws.{zero-mul}
use Rattle.integer_algebra.proofs.Polynomial.{var, ◌⊕◌, ◌⊖◌, ◌⊗◌}
use Rattle.integer_algebra.proofs.SignSteps.{weak}
use Rattle.integer_algebra.proofs.Signs.{mul_nonnegative}
use Rattle.integer_algebra.proofs.Weights.{Forward, not_to_the_left}
use Rattle.plane.proofs.Turns.{determinant_of_whole}
use Rattle.plane.specs.Order.{IsBefore}
use Rattle.plane.specs.Point.{Point, whole}
use Rattle.plane.specs.Turn.{IsLeft}

-- the way to a later point is forward
forward_to : (i a : Point) → IsBefore i a → Forward (a.x -ℤ i.x) (a.y -ℤ i.y)
forward_to i a (inl h) = inl (omega (arith, ints, h))
forward_to i a (inr h) = let e = h.0 in let k = h.1 in inr (omega (arith, ints, e), omega (arith, ints, k))

-- of two ways forward, of which the second is to the left of the first, the first is to the right, and not straight up
to_the_right : (ax ay bx by : ℤ) → Forward ax ay → Forward bx by → pos 0 <ℤ (ax *ℤ by -ℤ ay *ℤ bx) → pos 0 <ℤ ax
to_the_right ax ay bx by (inl h) b left = h
to_the_right ax ay bx by (inr h) b left =
    let none : ax *ℤ by ≡ pos 0 = subst (λ z. z *ℤ by ≡ pos 0) (sym h.0) (zero-mul by) in
    let some : pos 0 ≤ℤ (ay *ℤ bx) = mul_nonnegative ay bx (weak h.1) (not_to_the_left bx by b) in
    absurd (omega (arith, ints, none, some, left))

-- of three ways forward, each of which is to the left of the one before, the last is to the left of the first
ways_trans : (ax ay bx by cx cy : ℤ) → Forward ax ay → Forward bx by → Forward cx cy
    → pos 0 <ℤ (ax *ℤ by -ℤ ay *ℤ bx) → pos 0 <ℤ (bx *ℤ cy -ℤ by *ℤ cx) → pos 0 <ℤ (ax *ℤ cy -ℤ ay *ℤ cx)
ways_trans ax ay bx by cx cy a b c first second =
    positive_by (var 2) (var 0 ⊗ var 5 ⊖ var 1 ⊗ var 4)
    (var 0 ⊗ (var 2 ⊗ var 5 ⊖ var 3 ⊗ var 4) ⊕ var 4 ⊗ (var 0 ⊗ var 3 ⊖ var 1 ⊗ var 2))
    (ax ∷ ay ∷ bx ∷ by ∷ cx ∷ cy ∷ []) refl (to_the_right bx by cx cy b c second)
    (to_the_right ax ay bx by a b first ⊠⁺ second ⊞⁺ not_to_the_left cx cy c ⊠ weak first)

-- where of three later points the second is to the left of the first, and the third to the left of the second, the third is to the left of
-- the first
pub left_trans : (i a b c : Point) → IsBefore i a → IsBefore i b → IsBefore i c → IsLeft (whole i) (whole a) (whole b)
    → IsLeft (whole i) (whole b) (whole c) → IsLeft (whole i) (whole a) (whole c)
left_trans i a b c to_a to_b to_c first second =
    subst (λ z. pos 0 <ℤ z) (sym (determinant_of_whole i a c))
    (ways_trans (a.x -ℤ i.x) (a.y -ℤ i.y) (b.x -ℤ i.x) (b.y -ℤ i.y) (c.x -ℤ i.x) (c.y -ℤ i.y)
    (forward_to i a to_a) (forward_to i b to_b) (forward_to i c to_c)
    (subst (λ z. pos 0 <ℤ z) (determinant_of_whole i a b) first) (subst (λ z. pos 0 <ℤ z) (determinant_of_whole i b c) second))
