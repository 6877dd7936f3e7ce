-- What contracts see of a source and a sink in memory. This project's own.
use Rattle.std.specs.Prelude.{ℕ, List}

-- the bytes that are left, how many a call gives at most, the numbers of the calls that fail, and how many calls and
-- faults there were
pub record SourceInMemory : Type 0 where
  pub left : List ℕ
  pub piece : ℕ
  pub failing : List ℕ
  pub calls : ℕ
  pub faults : ℕ

-- the bytes that were taken, how many all calls take at most and how many one does, the numbers of the calls that
-- fail, and how many calls and faults there were
pub record SinkInMemory : Type 0 where
  pub taken : List ℕ
  pub room : ℕ
  pub piece : ℕ
  pub failing : List ℕ
  pub calls : ℕ
  pub faults : ℕ
