-- Where no fault can come.
use Rattle.std.proofs.Common.{inl, inr, arith}
use Rattle.geo_io.specs.Counts.{Rose}

-- a count that stands at 0 did not rise
pub never_rises : ¬ (Rose 0 0)
never_rises rose = elim rose.rose [
  | inl more ↦ absurd (omega arith)
  | inr greatest ↦ absurd (omega arith)
]
