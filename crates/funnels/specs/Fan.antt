-- Fans of directions at a point: steps to the left from one to the next, each over no neighbour. Directions are told apart by
-- a function of two that is positive where the second is left of the first. This project's own.
use Rattle.std.specs.Prelude.{◌≡◌, List, [], ◌∷◌, ℤ, pos, ◌<ℤ◌, ◌≤ℤ◌}

module _ {A : Type 0} (f : A → A → ℤ) where
  -- u is left of a, and not left of b: where b is left of a, it is in the angle from a to b, with b and without a
  abbrev pub IsInSector : A → A → A → Type 0
  IsInSector a b u = (pos 0 <ℤ f a u) × (f b u ≤ℤ pos 0)

  -- strictly inside the angle
  abbrev pub IsSweptInside : A → A → A → Type 0
  IsSweptInside a b u = (pos 0 <ℤ f a u) × (f b u <ℤ pos 0)

  -- each step from p over these directions to y goes to the left by less than a half turn
  abbrev pub IsTurning : A → List A → A → Type 0
  IsTurning p [] y = pos 0 <ℤ f p y
  IsTurning p (d ∷ ds) y = (pos 0 <ℤ f p d) × IsTurning d ds y

  -- none of these directions is right of q
  abbrev pub AllNotRight : A → List A → Type 0
  AllNotRight q [] = Unit {0}
  AllNotRight q (d ∷ ds) = (pos 0 ≤ℤ f q d) × AllNotRight q ds

  module _ (N : A → Type 0) where
    -- a step of a fan: to the left by less than a half turn, over no neighbour
    pub record IsFanStep (a b : A) : Type 0 where
      pub ahead : pos 0 <ℤ f a b
      pub none : (u : A) → N u → ¬ IsInSector a b u

    -- the last step may end at a neighbour
    pub record IsLastStep (a b : A) : Type 0 where
      pub ahead : pos 0 <ℤ f a b
      pub none : (u : A) → N u → ¬ IsSweptInside a b u

    -- steps from p over these directions, of which r is the last
    abbrev pub IsFan : A → List A → A → Type 0
    IsFan p [] r = p ≡ r
    IsFan p (d ∷ ds) r = IsFanStep p d × IsFan d ds r
