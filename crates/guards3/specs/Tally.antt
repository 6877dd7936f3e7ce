-- How many vertices the classes have, and which has the fewest. No public clause cites this module. This project's own.
use Rattle.std.specs.Prelude.{◌≡◌, ◌⊎◌, ℕ, ◌<◌, List, length, slice_index_or}
use Rattle.ring_check.specs.Oriented.{Oriented}
use Rattle.guards3.specs.Guards.{IsRather, members}
use Rattle.guards3.specs.declared.tally.Tally.{Tally}

-- the tally of some numbers: how many they are, and the first
pub record IsTallyOf (numbers : List ℕ) (tally : Tally) : Type 0 where
  pub count : tally.count ≡ length numbers
  pub least : tally.least ≡ slice_index_or numbers 0 0

-- the tally of its class
abbrev pub IsTally : Oriented → List ℕ → Tally → Type 0
IsTally ring classes tally = IsTallyOf (members ring classes tally.class) tally

-- fewer vertices, or as many with a lesser first number
abbrev pub IsLess : Tally → Tally → Type 0
IsLess one other = (one.count < other.count) ⊎ ((one.count ≡ other.count) × (one.least < other.least))

-- that of a class to which no other is preferred
pub record IsFewest (ring : Oriented) (classes : List ℕ) (found : Tally) : Type 0 where
  pub of_three : found.class < 3
  pub tally : IsTally ring classes found
  pub fewest : (other : ℕ) → other < 3 → ¬ IsRather (members ring classes other) (members ring classes found.class)
