-- How an edge lies to a point. This project's own. No public clause cites this module.
use Rattle.std.specs.Int.Signed.{le_z, lt_z}
use Rattle.std.specs.Prelude.{◌≡◌, ◌↔◌, ◌⊎◌, ◌&&◌, ◌*ℤ◌, ◌<ℤ◌, Bool, IsTrue, true, false}
use Rattle.plane.specs.Point.{IsSame, Point, Triple, whole}
use Rattle.rings.specs.Edge.{Edge, IsOn}
use Rattle.rings.specs.Inside.{is_crossed}
use Rattle.inside_test.specs.declared.crossing.Meeting.{Meeting}
use Rattle.inside_test.specs.declared.crossing.Meeting.TheVariants.{Crossed, Missed, On}
use Rattle.inside_test.specs.declared.crossing.Vertex.{Vertex}

-- the point is on the edge exactly where the answer says so; else it says whether the edge is crossed
pub record IsMeeting (m : Meeting) (e : Edge) (p : Triple) : Type 0 where
  pub on : (m ≡ On) ↔ IsOn e p
  pub crossed : m ≡ Crossed → is_crossed e p ≡ true
  pub missed : m ≡ Missed → is_crossed e p ≡ false

-- the vertex says whether it is above the point
abbrev pub IsVertexBeside : Vertex → Triple → Type 0
IsVertexBeside v p = IsTrue v.is_above ↔ (p.Y <ℤ (v.at.y *ℤ p.W))

-- the edge from low to high rises past the height of the point: it begins there or below, and ends above
abbrev pub rises : Point → Point → Triple → Bool
rises low high p = le_z (low.y *ℤ p.W) p.Y && lt_z p.Y (high.y *ℤ p.W)

-- a and b are at the height of the point, and neither both left of it nor both right
pub record AreAround (a b : Point) (p : Triple) : Type 0 where
  pub first_level : a.y *ℤ p.W ≡ p.Y
  pub last_level : b.y *ℤ p.W ≡ p.Y
  pub not_left : ¬ (((a.x *ℤ p.W) <ℤ p.X) × ((b.x *ℤ p.W) <ℤ p.X))
  pub not_right : ¬ ((p.X <ℤ (a.x *ℤ p.W)) × (p.X <ℤ (b.x *ℤ p.W)))

-- an edge with no end above the point has it on it: at an end, or between ends at its height
abbrev pub IsTouched : Point → Point → Triple → Type 0
IsTouched a b p = IsSame (whole a) p ⊎ IsSame (whole b) p ⊎ AreAround a b p
