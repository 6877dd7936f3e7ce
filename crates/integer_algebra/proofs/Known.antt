-- Known normal forms and identities, so that a wrong definition does not check, and a sign drawn from one of them.
use Rattle.std.proofs.Common.{◌≡◌, ℕ, zero, suc, [], ◌∷◌, refl, ℤ, pos, negsuc, ◌+ℤ◌, ◌-ℤ◌, ◌*ℤ◌, ◌≤ℤ◌, arith}
use Rattle.std.proofs.lemmas.Int.{ints}
use Rattle.integer_algebra.proofs.Normal.{term}
use Rattle.integer_algebra.proofs.Polynomial.{Polynomial, var, lit, ◌⊕◌, ◌⊖◌, ◌⊗◌, normal, same_value}
use Rattle.integer_algebra.proofs.Signs.{square_nonnegative}

-- terms are sorted, equal ones meet, and those that cancel are gone
pub normal_form : normal ((var 1 ⊕ var 0) ⊗ (var 0 ⊖ var 1) ⊖ lit (pos 3) ⊗ var 0 ⊕ var 2)
    ≡ term (pos 1) (0 ∷ 0 ∷ []) ∷ term (negsuc 2) (0 ∷ []) ∷ term (negsuc 0) (1 ∷ 1 ∷ []) ∷ term (pos 1) (2 ∷ []) ∷ []
normal_form = refl

-- the sum of a_i b_i over n variables from a and from b
abbrev dot : ℕ → ℕ → ℕ → Polynomial
dot zero a b = lit (pos 0)
dot (suc n) a b = var a ⊗ var b ⊕ dot n (suc a) (suc b)

-- the sum of the squares of a b_i - b a_i
abbrev against : ℕ → ℕ → ℕ → ℕ → ℕ → Polynomial
against zero a b i j = lit (pos 0)
against (suc n) a b i j = let d = var a ⊗ var j ⊖ var b ⊗ var i in d ⊗ d ⊕ against n a b (suc i) (suc j)

-- the sum of the squares of a_i b_j - a_j b_i over the pairs i < j
abbrev minors : ℕ → ℕ → ℕ → Polynomial
minors zero a b = lit (pos 0)
minors (suc n) a b = against n a b (suc a) (suc b) ⊕ minors n (suc a) (suc b)

-- Lagrange's identity in 10 variables
pub lagrange_five : normal (dot 5 0 0 ⊗ dot 5 5 5 ⊖ dot 5 0 5 ⊗ dot 5 0 5 ⊖ minors 5 0 5) ≡ []
lagrange_five = refl

-- and in 20
pub lagrange_ten : normal (dot 10 0 0 ⊗ dot 10 10 10 ⊖ dot 10 0 10 ⊗ dot 10 0 10 ⊖ minors 10 0 10) ≡ []
lagrange_ten = refl

-- in two pairs, with its value
lagrange_two : (a b c d : ℤ) →
    (a *ℤ a +ℤ b *ℤ b) *ℤ (c *ℤ c +ℤ d *ℤ d) -ℤ (a *ℤ c +ℤ b *ℤ d) *ℤ (a *ℤ c +ℤ b *ℤ d) ≡ (a *ℤ d -ℤ b *ℤ c) *ℤ (a *ℤ d -ℤ b *ℤ c)
lagrange_two a b c d =
    let minor = var 0 ⊗ var 3 ⊖ var 1 ⊗ var 2 in
    let product = var 0 ⊗ var 2 ⊕ var 1 ⊗ var 3 in
    same_value ((var 0 ⊗ var 0 ⊕ var 1 ⊗ var 1) ⊗ (var 2 ⊗ var 2 ⊕ var 3 ⊗ var 3) ⊖ product ⊗ product) (minor ⊗ minor) (a ∷ b ∷ c ∷ d ∷ []) refl

-- the inequality of Cauchy and Schwarz, from it
pub cauchy_schwarz : (a b c d : ℤ) → ((a *ℤ c +ℤ b *ℤ d) *ℤ (a *ℤ c +ℤ b *ℤ d)) ≤ℤ ((a *ℤ a +ℤ b *ℤ b) *ℤ (c *ℤ c +ℤ d *ℤ d))
cauchy_schwarz a b c d = omega (arith, ints, lagrange_two a b c d, square_nonnegative (a *ℤ d -ℤ b *ℤ c))
