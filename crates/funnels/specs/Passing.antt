-- Two ways that pass one diagonal, walked back from their common end: the right one bends only to the right, the left one only to
-- the left. This project's own.
use Rattle.std.specs.Prelude.{◌≡◌, ℕ, Bool, true, false, not, ℤ, pos, neg_ℤ, ◌<ℤ◌, List}
use Rattle.plane.specs.Line.{cross_product}
use Rattle.plane.specs.Prelude.{IsPoint, On, Point, Triple, whole}
use Rattle.rings.specs.Prelude.{AreNeighbours, vertex}
use Rattle.funnels.specs.Fanned.{turning}

-- positive where the way from q to g turns off to the left of the way from p to h, or on the other side to the right
abbrev pub opening : Bool → Point → Point → Point → Point → ℤ
opening true p h q g = cross_product p h q g
opening false p h q g = neg_ℤ (cross_product p h q g)

-- the way from p to its head h passes the diagonal between vertices far and own at x, and another way passes it at z: seen along
-- the way, the far end and z are ahead; and where the head is the own end and an inner point of its chain, each neighbour of it
-- that is behind the way is behind the diagonal
pub record Passes (side : Bool) (corners : List Point) (far own : ℕ) (p h : Point) (inner : Type 0) (x z : Triple) : Type 0 where
  pub rational : IsPoint x
  pub on_way : On x (whole p) (whole h)
  pub on_side : On x (whole (vertex corners far)) (whole (vertex corners own))
  pub far_ahead : pos 0 <ℤ turning side p (whole h) (whole (vertex corners far))
  pub other_ahead : pos 0 <ℤ turning side p (whole h) z
  pub swept : inner → h ≡ vertex corners own → (u : Point) → AreNeighbours corners h u
      → turning side h (whole p) (whole u) <ℤ pos 0 → turning side h (whole (vertex corners far)) (whole u) <ℤ pos 0

-- two ways pass the diagonal, each ahead of the other, and part
pub record ArePassing (side : Bool) (corners : List Point) (far own : ℕ) (p h : Point) (inner : Type 0) (x : Triple)
    (q g : Point) (inner_too : Type 0) (z : Triple) : Type 0 where
  pub one : Passes side corners far own p h inner x z
  pub other : Passes (not side) corners own far q g inner_too z x
  pub apart : pos 0 <ℤ opening side p h q g
