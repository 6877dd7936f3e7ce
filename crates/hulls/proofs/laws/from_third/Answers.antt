use Rattle.hulls.proofs.Third.{from_third, from_third_right}
use Rattle.hulls.proofs.laws.from_third.Goals as goal

pub returns : goal.returns
returns c = λ ring some simple a b c free ab ac is_ab is_ac. (
  from_third ring some simple a b c free ab ac is_ab is_ac,
  from_third_right ring some simple a b c free ab ac is_ab is_ac,
)
