-- Signed numbers that went through a call are the numbers that they were.
use Rattle.std.proofs.Common.{ℤ, FitsSigned, w64, to_z, of_z, subst}
use Rattle.std.proofs.lemmas.Int.{to_z-of_z}

-- a number as it comes out of a call
abbrev pub sent : ℤ → ℤ
sent z = to_z w64 (of_z w64 z)

pub two_back : (P : ℤ → ℤ → Type 0) (x y : ℤ) → FitsSigned w64 x → FitsSigned w64 y → P (sent x) (sent y) → P x y
two_back P x y fits fits' holds = subst (λ z. P z y) (to_z-of_z w64 x fits) (subst (P (sent x)) (to_z-of_z w64 y fits') holds)

pub four_back : (P : ℤ → ℤ → ℤ → ℤ → Type 0) (x y z w : ℤ) → FitsSigned w64 x → FitsSigned w64 y → FitsSigned w64 z → FitsSigned w64 w → P (sent x) (sent y) (sent z) (sent w) → P x y z w
four_back P x y z w fits fits' more more' holds =
    two_back (λ a b. P a b z w) x y fits fits' (two_back (P (sent x) (sent y)) z w more more' holds)
