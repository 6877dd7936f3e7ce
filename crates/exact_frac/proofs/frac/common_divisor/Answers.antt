use Rattle.std.proofs.Common.{arith}
use Rattle.std.proofs.lemmas.Nat.Gcd.{IsGcd-from_mod, IsGcd-from_zero}
use Rattle.exact_frac.proofs.frac.common_divisor.Goals as goal

pub loop-rest-preserved : goal.loop-rest-preserved
loop-rest-preserved c g h = c.loop-rest.invariant g (IsGcd-from_mod _ _ g h)

pub returns-then-rest-eq0 : goal.returns-then-rest-eq0
returns-then-rest-eq0 c = c.loop-rest.invariant _ (IsGcd-from_zero _ _ (omega (arith, c.if-rest-eq0.true)))

pub returns-else-rest-eq0 : goal.returns-else-rest-eq0
returns-else-rest-eq0 c = c.loop-rest.invariant _ (IsGcd-from_mod _ _ _ c.short_divisor.ensures)
