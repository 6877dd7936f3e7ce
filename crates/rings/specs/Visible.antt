-- What a point sees of the edges of a ring. Visibility polygons as in ElGindy and Avis 1981; parts of one point are this
-- project's own.
use Rattle.std.specs.Prelude.{◌≡◌, ◌⊎◌, ◌↔◌, ℕ, ◌+◌, ◌-◌, ◌<◌, ◌≤◌, List, length, map, reverse, slice_index_or}
use Rattle.plane.specs.Prelude.{IsPoint, On, Point, Triple, whole}
use Rattle.rings.specs.Inside.{IsIn}
use Rattle.rings.specs.Ring.{IsOnEdge, origin, vertex}
use Rattle.rings.specs.Sees.{Sees}
use Rattle.rings.specs.Simple.{IsSimple}

-- the points of edge i that q sees are those from a to b, and the edge goes from a to b
pub record IsPart (ring : List Point) (q : Triple) (i : ℕ) (a b : Triple) : Type 0 where
  pub first_rational : IsPoint a
  pub last_rational : IsPoint b
  pub in_order : On a (whole (vertex ring i)) b
  pub seen : (x : Triple) → IsPoint x → (IsOnEdge ring i x × Sees ring q x) ↔ On x a b

-- q sees no point of edge i
abbrev pub IsUnseen : List Point → Triple → ℕ → Type 0
IsUnseen ring q i = (x : Triple) → IsPoint x → IsOnEdge ring i x → ¬ Sees ring q x

-- an edge by its number, and the ends of a part of it
pub record Part : Type 0 where
  pub edge : ℕ
  pub first : Triple
  pub last : Triple

abbrev pub part_at : List Part → ℕ → Part
part_at parts k = slice_index_or parts k (record { edge = 0; first = whole origin; last = whole origin })

-- what q sees of the edges: a part of each edge of which it sees a point, in the order of the edges
pub record AreParts (ring : List Point) (q : Triple) (parts : List Part) : Type 0 where
  pub in_ring : (k : ℕ) → k < length parts → (part_at parts k).edge < length ring
  pub parts_seen : (k : ℕ) → k < length parts → IsPart ring q (part_at parts k).edge (part_at parts k).first (part_at parts k).last
  pub rising : (k : ℕ) → k + 1 < length parts → (part_at parts k).edge < (part_at parts (k + 1)).edge
  pub complete : (i : ℕ) → i < length ring → ((k : ℕ) × (k < length parts) × ((part_at parts k).edge ≡ i)) ⊎ IsUnseen ring q i

-- a part where the ring, of n edges, is read the other way round: its edge has another number, and it runs backward
abbrev pub turned_part : ℕ → Part → Part
turned_part n part = record { edge = n - 1 - part.edge; first = part.last; last = part.first }

-- all parts then, the last one first
abbrev pub turned_parts : ℕ → List Part → List Part
turned_parts n parts = reverse (map (turned_part n) parts)

-- x is in the closed triangle of q, a and b, which may be flat: on the way from q to a point between a and b
pub record IsInTriangleOf (q a b x : Triple) : Type 0 where
  pub point : Triple
  pub rational : IsPoint point
  pub on_base : On point a b
  pub on_way : On x q point

-- it is in the closed triangle of q and one of the parts
abbrev pub IsInView : Triple → List Part → Triple → Type 0
IsInView q parts x = (k : ℕ) × (k < length parts) × IsInTriangleOf q (part_at parts k).first (part_at parts k).last x

-- of the points of a simple ring, q sees just those
abbrev pub ViewLaw : Type 0
ViewLaw = (ring : List Point) → 3 ≤ length ring → IsSimple ring → (q : Point) → IsIn ring (whole q)
    → (parts : List Part) → AreParts ring (whole q) parts
    → (x : Triple) → IsPoint x → IsIn ring x → Sees ring (whole q) x ↔ IsInView (whole q) parts x
