-- Numbers that agree through positive factors have one sign.
use Rattle.std.proofs.Common.{◌≡◌, ℤ, pos, ◌*ℤ◌, ◌<ℤ◌, ◌≤ℤ◌, arith}
use Rattle.std.proofs.lemmas.Int.{ints}
use Rattle.integer_algebra.proofs.Laws.{mul_comm}
use Rattle.integer_algebra.proofs.SignSteps.{weak}
use Rattle.integer_algebra.proofs.Signs.{factor_negative, factor_nonnegative, factor_nonpositive, factor_positive, mul_negative, mul_nonnegative}
use Rattle.integer_algebra.proofs.Signs.{mul_nonpositive, mul_positive}

module _ (f g P Q : ℤ) (hP : pos 0 <ℤ P) (hQ : pos 0 <ℤ Q) (e : f *ℤ Q ≡ g *ℤ P) where
  -- they are positive together,
  pub same_positive : pos 0 <ℤ f → pos 0 <ℤ g
  same_positive h = factor_positive P g hP (omega (arith, ints, e, mul_positive f Q h hQ, mul_comm P g))

  -- negative together,
  pub same_negative : f <ℤ pos 0 → g <ℤ pos 0
  same_negative h = factor_negative P g hP (omega (arith, ints, e, mul_negative Q f hQ h, mul_comm Q f, mul_comm P g))

  -- not positive together,
  pub same_nonpositive : f ≤ℤ pos 0 → g ≤ℤ pos 0
  same_nonpositive h = factor_nonpositive P g hP (omega (arith, ints, e, mul_nonpositive Q f (weak hQ) h, mul_comm Q f, mul_comm P g))

  -- and not negative together
  pub same_nonnegative : pos 0 ≤ℤ f → pos 0 ≤ℤ g
  same_nonnegative h = factor_nonnegative P g hP (omega (arith, ints, e, mul_nonnegative f Q h (weak hQ), mul_comm P g))
