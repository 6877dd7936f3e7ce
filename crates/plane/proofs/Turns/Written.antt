-- Determinants and linear functionals as written polynomials, by the numbers of their triples.
use Rattle.std.proofs.Common.{ℕ, ◌+◌, ◌*◌}
use Rattle.integer_algebra.proofs.Polynomial.{Polynomial, var, ◌⊕◌, ◌⊖◌, ◌⊗◌}

-- the determinant whose rows have these parts
abbrev pub written_determinant : (aX aY aW bX bY bW cX cY cW : Polynomial) → Polynomial
written_determinant aX aY aW bX bY bW cX cY cW = aX ⊗ (bY ⊗ cW ⊖ cY ⊗ bW) ⊖ aY ⊗ (bX ⊗ cW ⊖ cX ⊗ bW) ⊕ aW ⊗ (bX ⊗ cY ⊖ cX ⊗ bY)

-- the determinant of three triples, of which triple i has the variables 3i, 3i + 1 and 3i + 2
abbrev pub determinant : ℕ → ℕ → ℕ → Polynomial
determinant a b c =
    let part = λ (triple place : ℕ). var (3 * triple + place) in
    written_determinant (part a 0) (part a 1) (part a 2) (part b 0) (part b 1) (part b 2) (part c 0) (part c 1) (part c 2)

-- the linear functional whose coefficients are triple f, at triple a
abbrev pub pairing : ℕ → ℕ → Polynomial
pairing f a = var (3 * f) ⊗ var (3 * a) ⊕ var (3 * f + 1) ⊗ var (3 * a + 1) ⊕ var (3 * f + 2) ⊗ var (3 * a + 2)
