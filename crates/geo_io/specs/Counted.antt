-- What contracts see of a reader as a source and of a writer as a sink. This project's own.
use Rattle.std.specs.Prelude.{ℕ}

-- a reader or a writer, and how many faults there were
pub record Counted (I : Type 0) : Type 0 where
  pub inner : I
  pub faults : ℕ
