-- How a buffer is filled item by item. No public clause cites this module.
use Rattle.std.specs.Prelude.{◌≡◌, ℕ, List, [], ◌∷◌, length, min}
use Rattle.geo_c.specs.Filled.{filled_by}
use Rattle.geo_c.specs.declared.few.Few.{Few}
use Rattle.geo_c.specs.declared.few.Few.TheVariants as few

-- some items are put into a buffer, and the next one has this place, where it fits
pub record IsPut {X : Type 0} (items before after : List X) (next : ℕ) : Type 0 where
  pub filled : after ≡ filled_by items before
  pub place : next ≡ min (length items) (length before)

-- none, one or two numbers
abbrev pub few_numbers : Few → List ℕ
few_numbers few.Nothing = []
few_numbers (few.One i) = i ∷ []
few_numbers (few.Two i j) = i ∷ j ∷ []
