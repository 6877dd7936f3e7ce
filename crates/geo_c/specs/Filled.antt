-- What a call leaves in a buffer of its caller. This project's own.
use Rattle.std.specs.Prelude.{◌≡◌, ℕ, List, ◌++◌, length, take, drop}

-- the front of some items, as many as fit, and then what was there before
abbrev pub filled_by : {X : Type 0} → List X → List X → List X
filled_by items before = take (length before) items ++ drop (length items) before

-- a buffer is filled by some items, and how many there are is told
abbrev pub IsFilledBy : {X : Type 0} → List X → ℕ → List X → List X → Type 0
IsFilledBy items needed before after = (needed ≡ length items) × (after ≡ filled_by items before)
