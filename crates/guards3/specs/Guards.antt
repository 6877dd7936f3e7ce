-- Guards of a triangulated polygon: a class of its vertices in three colours, of which each triangle has all. Fisk 1978.
use Rattle.std.specs.List.{Contains, range_with_len}
use Rattle.std.specs.Prelude.{◌≡◌, ◌≢◌, ◌⊎◌, ◌↔◌, ℕ, ◌<◌, ◌==◌, List, filter, length, slice_index_or}
use Rattle.plane.specs.Point.{IsPoint, Point, Triple, whole}
use Rattle.rings.specs.Inside.{IsIn}
use Rattle.rings.specs.Ring.{vertex}
use Rattle.rings.specs.Sees.{Sees}
use Rattle.meshes.specs.Fits.{Fits}
use Rattle.meshes.specs.Side.{HasSide, tri_at}
use Rattle.meshes.specs.declared.tri.Tri.{Tri}
use Rattle.ring_check.specs.Oriented.{Oriented, given_index}

-- the class of vertex i, where each vertex has one
abbrev pub class_of : List ℕ → ℕ → ℕ
class_of classes i = slice_index_or classes i 0

-- the corners of the triangle are in three different classes
pub record IsOfThree (classes : List ℕ) (t : Tri) : Type 0 where
  pub a_b : class_of classes t.a ≢ class_of classes t.b
  pub b_c : class_of classes t.b ≢ class_of classes t.c
  pub c_a : class_of classes t.c ≢ class_of classes t.a

-- the vertices are parted into the classes 0, 1 and 2, and each triangle has one corner in each
pub record IsParting (count : ℕ) (tris : List Tri) (classes : List ℕ) : Type 0 where
  pub one_each : length classes ≡ count
  pub three : (i : ℕ) → i < count → class_of classes i < 3
  pub corners : (k : ℕ) → k < length tris → IsOfThree classes (tri_at tris k)

-- the vertices of a class, rising, by the numbers that they have in the list that the ring was made of
abbrev pub members : Oriented → List ℕ → ℕ → List ℕ
members ring classes class = filter (λ g. class_of classes (given_index ring g) == class) (range_with_len 0 (length ring.corners))

-- the first list is shorter, or as long with a lesser first number
abbrev pub IsRather : List ℕ → List ℕ → Type 0
IsRather one other = (length one < length other) ⊎ ((length one ≡ length other) × (slice_index_or one 0 0 < slice_index_or other 0 0))

-- the guards are the class with the fewest vertices; of equal classes, the one that holds the least number
pub record AreGuards (ring : Oriented) (tris : List Tri) (guards : List ℕ) : Type 0 where
  pub classes : List ℕ
  pub parting : IsParting (length ring.corners) tris classes
  pub class : ℕ
  pub of_three : class < 3
  pub are : guards ≡ members ring classes class
  pub chosen : (other : ℕ) → other < 3 → other ≢ class → IsRather guards (members ring classes other)

-- each rational point of the ring is seen by one of these vertices of it
abbrev pub SeeAll : List Point → List ℕ → Type 0
SeeAll ring guards = (x : Triple) → IsPoint x → IsIn ring x → (g : ℕ) × Contains guards g × Sees ring (whole (vertex ring g)) x

-- each triangle of the first list is one of the second, at any place and read from any of its corners: it has the same sides
abbrev pub AreAmong : List Tri → List Tri → Type 0
AreAmong tris others =
    (k : ℕ) → k < length tris → (l : ℕ) × (l < length others) × ((i j : ℕ) → HasSide (tri_at tris k) i j → HasSide (tri_at others l) i j)

-- the triangles of a mesh have just one such parting: two put the same vertices together
abbrev pub OnePartingLaw : Type 0
OnePartingLaw = (corners : List Point) (tris : List Tri) → Fits corners tris → (one other : List ℕ) → IsParting (length corners) tris one
    → IsParting (length corners) tris other → (i j : ℕ) → i < length corners → j < length corners
    → (class_of one i ≡ class_of one j) ↔ (class_of other i ≡ class_of other j)

-- the set of the triangles determines the guards: two lists with the same triangles, in any order, have the same guards
abbrev pub OneGuardsLaw : Type 0
OneGuardsLaw = (ring : Oriented) (tris others : List Tri) → Fits ring.corners tris → AreAmong tris others → (one other : List ℕ)
    → AreGuards ring tris one → AreGuards ring others other → one ≡ other
