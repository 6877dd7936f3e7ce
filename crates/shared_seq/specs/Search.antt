-- A list that is searched by halves.
use Rattle.std.specs.Prelude.{◌≡◌, ℕ, ◌+◌, ◌<◌, List, ◌∷◌, ◌++◌, length}

-- a part of a list: the place of its first value, its values, and how often at most it can be halved
pub record ListPart : Type 0 where
  pub low : ℕ
  pub items : List ℕ
  pub levels : ℕ

-- a part is halved at a value
pub record AreHalves (part before : ListPart) (value : ℕ) (after : ListPart) : Type 0 where
  pub items : part.items ≡ before.items ++ value ∷ after.items
  pub low : before.low ≡ part.low
  pub after_low : after.low ≡ part.low + length before.items + 1
  pub before_levels : before.levels < part.levels
  pub after_levels : after.levels < part.levels
