-- Edges that share no more than their ends, and rings of such edges. This project's own, for simple polygons.
use Rattle.std.specs.Prelude.{◌≡◌, ◌⊎◌, ℕ, ◌<◌, List, length}
use Rattle.plane.specs.Point.{IsPoint, IsSame, Point, Triple, whole}
use Rattle.rings.specs.Edge.{Edge, HasEdge, HasEnd, IsOn, edges_of}
use Rattle.rings.specs.Ring.{vertex}

-- the rational point is an end of both edges
pub record IsCommonEnd (e f : Edge) (x : Triple) : Type 0 where
  pub end : Point
  pub of_first : HasEnd e end
  pub of_second : HasEnd f end
  pub same : IsSame x (whole end)

-- two edges share no rational point but a common end
abbrev pub MeetAtEnds : Edge → Edge → Type 0
MeetAtEnds e f = (x : Triple) → IsPoint x → IsOn e x → IsOn f x → IsCommonEnd e f x

-- each two different edges of the list do
abbrev pub AreApart : List Edge → Type 0
AreApart es = (e f : Edge) → HasEdge es e → HasEdge es f → (e ≡ f) ⊎ MeetAtEnds e f

-- a ring with different vertices, whose edges are apart: a simple ring, in other words
pub record IsApartRing (ring : List Point) : Type 0 where
  pub distinct : (i j : ℕ) → i < j → j < length ring → ¬ (vertex ring i ≡ vertex ring j)
  pub apart : AreApart (edges_of ring)
