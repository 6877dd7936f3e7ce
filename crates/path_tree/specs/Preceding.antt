-- The number before a place of a list. No public clause cites this module.
use Rattle.std.specs.Prelude.{◌≡◌, ℕ, ◌-◌, ◌<◌, List, Option, Some, None, slice_index}

-- the place is preceded by this number, or is the first one, which none precedes
abbrev pub IsPrecededBy : List ℕ → ℕ → Option ℕ → Type 0
IsPrecededBy list place None = place ≡ 0
IsPrecededBy list place (Some number) = (0 < place) × (number ≡ slice_index list (place - 1))
