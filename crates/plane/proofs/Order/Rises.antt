-- How far one point is above another, and to the right of it, by their triples.
use Rattle.std.proofs.Common.{◌≡◌, [], ◌∷◌, refl, ℕ, ◌+◌, ◌*◌, ℤ, ◌-ℤ◌, ◌*ℤ◌}
use Rattle.integer_algebra.proofs.Polynomial.{Polynomial, var, ◌⊖◌, ◌⊗◌, same_value}
use Rattle.plane.proofs.Turns.{parts, determinant as det}
use Rattle.plane.specs.Prelude.{determinant, Triple}

-- how far v is above p, times a positive number where both are points
abbrev pub rise : Triple → Triple → ℤ
rise v p = v.Y *ℤ p.W -ℤ p.Y *ℤ v.W

-- how far it is to the right of p
abbrev pub run : Triple → Triple → ℤ
run v p = v.X *ℤ p.W -ℤ p.X *ℤ v.W

-- those two as polynomials, of two triples by their numbers
abbrev pub written_run : ℕ → ℕ → Polynomial
written_run v p = var (3 * v) ⊗ var (3 * p + 2) ⊖ var (3 * p) ⊗ var (3 * v + 2)

-- the height
abbrev pub written_rise : ℕ → ℕ → Polynomial
written_rise v p = var (3 * v + 1) ⊗ var (3 * p + 2) ⊖ var (3 * p + 1) ⊗ var (3 * v + 2)

-- the heights of one triple over two others
pub rises : (v p q : Triple) → rise v p *ℤ q.W -ℤ rise v q *ℤ p.W ≡ v.W *ℤ rise q p
rises v p q =
    same_value (written_rise 0 1 ⊗ var 8 ⊖ written_rise 0 2 ⊗ var 5) (var 2 ⊗ written_rise 2 1) (parts (v ∷ p ∷ q ∷ []) []) refl

-- a determinant by the way from its last row to its first two
pub by_rises : (a b p : Triple) → p.W *ℤ determinant a b p ≡ run a p *ℤ rise b p -ℤ run b p *ℤ rise a p
by_rises a b p =
    same_value (var 8 ⊗ det 0 1 2)
    ((var 0 ⊗ var 8 ⊖ var 6 ⊗ var 2) ⊗ written_rise 1 2 ⊖ (var 3 ⊗ var 8 ⊖ var 6 ⊗ var 5) ⊗ written_rise 0 2)
    (parts (a ∷ b ∷ p ∷ []) []) refl
