-- How far a search for the vertices that a chain touches has come along the chain. This project's own.
use Rattle.std.specs.Prelude.{◌≡◌, ◌⊎◌, ◌↔◌, ℕ, ◌+◌, ◌<◌, ◌≤◌, List, [], ◌∷◌, ◌++◌, length, take}
use Rattle.plane.specs.Prelude.{On, Point, whole}
use Rattle.rings.specs.Prelude.{Has, point_at, vertex}
use Rattle.rings.specs.Full.{AreInOrder, IsFull, IsVertexBetween}

-- the chain goes on from place k, and v is on the way from the last point to the next one, and not the last point
pub record IsAhead (chain : List Point) (k : ℕ) (last v : Point) : Type 0 where
  pub more : k + 1 < length chain
  pub on : On (whole v) (whole last) (whole (point_at chain (k + 1)))
  pub differ : ¬ (v ≡ last)

-- v is a vertex strictly between the points at place k and the next, and not behind the last point
pub record IsVertexAhead (corners chain : List Point) (k : ℕ) (last v : Point) : Type 0 where
  pub more : k + 1 < length chain
  pub between : IsVertexBetween corners (point_at chain k) (point_at chain (k + 1)) v
  pub on : On (whole v) (whole (point_at chain k)) (whole last)

-- x is an end of the side that is crossed at place m
abbrev pub IsEndAt : (from to : ℕ → ℕ) → ℕ → ℕ → Type 0
IsEndAt from to m x = (x ≡ from m) ⊎ (x ≡ to m)

-- where the chain goes on: the last point is on the way, the sides from a place on matter to it, which is at most j, and none of those
-- before place i has an end ahead
pub record IsSearchOpen (corners : List Point) (from to start : ℕ → ℕ) (chain : List Point) (i j k : ℕ) (last : Point) : Type 0 where
  pub on : On (whole last) (whole (point_at chain k)) (whole (point_at chain (k + 1)))
  pub not_next : ¬ (last ≡ point_at chain (k + 1))
  pub soon : start k ≤ j
  pub none : (m x : ℕ) → start k ≤ m → m < i → IsEndAt from to m x → ¬ IsAhead chain k last (vertex corners x)

-- what was found is the chain to place k with all that it touches, and then what was passed from there to the last point
pub record HasCome (corners : List Point) (from to start : ℕ → ℕ) (chain : List Point) (i j k : ℕ) (last : Point) (found : List Point) : Type 0 where
  pub within : k < length chain
  pub before : List Point
  pub since : List Point
  pub full : IsFull corners (take (k + 1) chain) before
  pub parts : found ≡ before ++ since
  pub ordered : AreInOrder (point_at chain k) since
  pub passed : (v : Point) → Has since v ↔ IsVertexAhead corners chain k last v
  pub goes_on : k + 1 < length chain → IsSearchOpen corners from to start chain i j k last
  pub at_end : length chain ≤ k + 1 → last ≡ point_at chain k

-- a point was looked at: ahead, it is the last one now and is found, and the place is the next one where it is there; else nothing changed
pub record IsLookedAt (chain : List Point) (v : Point) (k : ℕ) (last : Point) (found : List Point) (k' : ℕ) (last' : Point) (found' : List Point) : Type 0 where
  pub stays : ¬ IsAhead chain k last v → (k' ≡ k) × (last' ≡ last) × (found' ≡ found)
  pub found_more : IsAhead chain k last v → (last' ≡ v) × (found' ≡ found ++ v ∷ [])
  pub passes : IsAhead chain k last v → ¬ (v ≡ point_at chain (k + 1)) → k' ≡ k
  pub arrives : IsAhead chain k last v → v ≡ point_at chain (k + 1) → k' ≡ k + 1
