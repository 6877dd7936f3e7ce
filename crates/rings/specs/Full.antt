-- Chains of points together with all vertices of a ring that they touch. This project's own.
use Rattle.std.specs.Prelude.{◌≡◌, ◌↔◌, ℕ, ◌<◌, List, [], ◌∷◌, ◌++◌, length}
use Rattle.plane.specs.Prelude.{On, Point, whole}
use Rattle.rings.specs.Edge.{Has}
use Rattle.rings.specs.Ring.{vertex}

-- v is a vertex of the ring on the segment from a to b, and neither of its ends
pub record IsVertexBetween (ring : List Point) (a b v : Point) : Type 0 where
  pub i : ℕ
  pub in_ring : i < length ring
  pub is_vertex : vertex ring i ≡ v
  pub on : On (whole v) (whole a) (whole b)
  pub not_first : ¬ (v ≡ a)
  pub not_last : ¬ (v ≡ b)

-- on the way from a over p to q: p is between a and q, and not q
pub record IsNearer (a p q : Point) : Type 0 where
  pub on : On (whole p) (whole a) (whole q)
  pub differ : ¬ (p ≡ q)

-- each of the points is farther from a than p is, on the way over p
abbrev pub AreFarther : Point → Point → List Point → Type 0
AreFarther a p [] = Unit {0}
AreFarther a p (q ∷ qs) = IsNearer a p q × AreFarther a p qs

-- the points come in their order on the way from a
abbrev pub AreInOrder : Point → List Point → Type 0
AreInOrder a [] = Unit {0}
AreInOrder a (p ∷ ps) = AreFarther a p ps × AreInOrder a ps

-- the points are, in their order from a, just the vertices on the segment from a to b without its ends
pub record AreTouched (ring : List Point) (a b : Point) (points : List Point) : Type 0 where
  pub vertices : (v : Point) → Has points v ↔ IsVertexBetween ring a b v
  pub ordered : AreInOrder a points

-- the chain with all vertices that it touches: after each point but the last come those on the way to the next
abbrev pub IsFull : List Point → List Point → List Point → Type 0
IsFull ring [] full = full ≡ []
IsFull ring (a ∷ []) full = full ≡ a ∷ []
IsFull ring (a ∷ b ∷ rest) full = (between : List Point) × (after : List Point) × (full ≡ a ∷ (between ++ after))
    × AreTouched ring a b between × IsFull ring (b ∷ rest) after

-- a chain is so in one way
abbrev pub OneFullLaw : Type 0
OneFullLaw = (ring chain full other : List Point) → IsFull ring chain full → IsFull ring chain other → full ≡ other
