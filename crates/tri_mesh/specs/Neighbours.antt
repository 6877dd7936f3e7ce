-- The table of neighbours of a mesh, and the sides from which it is made. This project's own.
use Rattle.std.specs.List.{All}
use Rattle.std.specs.Prelude.{◌≡◌, ◌⊎◌, ℕ, zero, suc, ◌+◌, ◌*◌, ◌/◌, ◌%◌, ◌<◌, ◌≤◌, ◌^◌, List, [], ◌∷◌, length, max, min, slice_index_or, slice_set}
use Rattle.std.specs.Prelude.{Option, Some, None}
use Rattle.meshes.specs.Mesh.{side_begin, side_end}
use Rattle.meshes.specs.Side.{HasSide, HasSidesOnce, IsTree, tri_at}
use Rattle.meshes.specs.declared.tri.Tri.{Tri}
use Rattle.tri_mesh.specs.declared.sides.Side.{Side}

-- the triangle with the side from i to j, or none where no triangle has it
pub record IsOwner (tris : List Tri) (i j : ℕ) (owner : Option ℕ) : Type 0 where
  pub some : (k : ℕ) → owner ≡ Some k → (k < length tris) × HasSide (tri_at tris k) i j
  pub none : owner ≡ None → (k : ℕ) → k < length tris → ¬ HasSide (tri_at tris k) i j

-- rows for some first triangles: at each side the triangle that has it in the other direction
pub record AreRowsOf (tris : List Tri) (rows : List (List (Option ℕ))) : Type 0 where
  pub across : (i side : ℕ) → i < length rows → side < 3
      → IsOwner tris (side_end (tri_at tris i) side) (side_begin (tri_at tris i) side) (slice_index_or (slice_index_or rows i []) side None)

-- what a mesh keeps of its triangles and its table
pub record KeepsNeighbours (tris : List Tri) (table : List (List (Option ℕ))) : Type 0 where
  pub tree : IsTree tris
  pub few : length tris < 2 ^ 30
  pub sides : HasSidesOnce tris
  pub count : length table ≡ length tris
  pub rows : AreRowsOf tris table

-- ---- the sides from which the table is made, each with the last one before it that has the same higher corner

-- the side at a place
abbrev pub side_at : List Side → ℕ → Side
side_at sides p = slice_index_or sides p (record { low = 0; high = 0; tri = 0; number = 0; before = None })

-- the last one of so many sides, if there is one
abbrev pub last_up_to : ℕ → Option ℕ
last_up_to zero = None
last_up_to (suc p) = Some p

-- side p % 3 of triangle p / 3, with the last one before it
abbrev pub side_in : List Tri → ℕ → ℕ → Side
side_in tris p before = record {
  low = min (side_begin (tri_at tris (p / 3)) (p % 3)) (side_end (tri_at tris (p / 3)) (p % 3));
  high = max (side_begin (tri_at tris (p / 3)) (p % 3)) (side_end (tri_at tris (p / 3)) (p % 3));
  tri = p / 3;
  number = p % 3;
  before = last_up_to before;
}

-- the sides from a place on, by how many sides there are up to the last one before each
abbrev pub sides_from : List Tri → ℕ → List ℕ → List Side
sides_from tris p [] = []
sides_from tris p (before ∷ befores) = side_in tris p before ∷ sides_from tris (p + 1) befores

-- the sides of the triangles
abbrev pub sides_of : List Tri → List ℕ → List Side
sides_of tris befores = sides_from tris 0 befores

-- the corners of the triangle are below n
pub record HasCornersBelow (n : ℕ) (t : Tri) : Type 0 where
  pub a : t.a < n
  pub b : t.b < n
  pub c : t.c < n

-- a side of a triangle of the list, in its place among the sides of all, with corners below n
pub record IsListedSide (tris : List Tri) (n p : ℕ) (s : Side) : Type 0 where
  pub in_list : s.tri < length tris
  pub in_row : s.number < 3
  pub place : p ≡ 3 * s.tri + s.number
  pub low : s.low ≡ min (side_begin (tri_at tris s.tri) s.number) (side_end (tri_at tris s.tri) s.number)
  pub high : s.high ≡ max (side_begin (tri_at tris s.tri) s.number) (side_end (tri_at tris s.tri) s.number)
  pub corner : s.high < n

-- all of them are such sides
abbrev pub AreListedSides : List Tri → ℕ → List Side → Type 0
AreListedSides tris n sides = (p : ℕ) → p < length sides → IsListedSide tris n p (side_at sides p)

-- two triangles have them between the same corners
pub record AreShared (s t : Side) : Type 0 where
  pub low : s.low ≡ t.low
  pub high : s.high ≡ t.high
  pub differ : ¬ (s.tri ≡ t.tri)

-- how many sides there are up to the last one, if there is one
abbrev pub up_to : Option ℕ → ℕ
up_to None = 0
up_to (Some p) = p + 1

-- the last one of the first sides, `count` of them, whose higher corner is v
pub record IsLastAt (sides : List Side) (v count : ℕ) (last : Option ℕ) : Type 0 where
  pub within : up_to last ≤ count
  pub higher : (p : ℕ) → last ≡ Some p → (side_at sides p).high ≡ v
  pub later : (p : ℕ) → up_to last ≤ p → p < count → ¬ ((side_at sides p).high ≡ v)

-- the side that a corner has
abbrev pub mark_at : List ℕ → ℕ → Option ℕ
mark_at marks v = last_up_to (slice_index_or marks v 0)

-- each side has the last one before it, and each corner the last one of all
pub record AreChained (sides : List Side) (marks : List ℕ) : Type 0 where
  pub befores : (p : ℕ) → p < length sides → IsLastAt sides (side_at sides p).high p (side_at sides p).before
  pub lasts : (v : ℕ) → v < length marks → IsLastAt sides v (length sides) (mark_at marks v)

-- the sides of m triangles with corners below n: each in its place, no two of one triangle between the same corners, and no three of any
pub record ArePaired (m n : ℕ) (sides : List Side) : Type 0 where
  pub in_list : (p : ℕ) → p < length sides → (side_at sides p).tri < m
  pub in_row : (p : ℕ) → p < length sides → (side_at sides p).number < 3
  pub place : (p : ℕ) → p < length sides → p ≡ 3 * (side_at sides p).tri + (side_at sides p).number
  pub order : (p : ℕ) → p < length sides → (side_at sides p).low ≤ (side_at sides p).high
  pub corner : (p : ℕ) → p < length sides → (side_at sides p).high < n
  pub alone : (p q : ℕ) → p < length sides → q < length sides → (side_at sides p).low ≡ (side_at sides q).low
      → (side_at sides p).high ≡ (side_at sides q).high → (side_at sides p).tri ≡ (side_at sides q).tri → p ≡ q
  pub pairs : (p q r : ℕ) → p < length sides → q < length sides → r < length sides → AreShared (side_at sides p) (side_at sides q)
      → AreShared (side_at sides p) (side_at sides r) → q ≡ r

-- ---- the table on the way

-- a row with no triangles
abbrev pub empty_row : List (Option ℕ)
empty_row = None ∷ None ∷ None ∷ []

-- what the rows have for a side
abbrev pub owner_at : List (List (Option ℕ)) → ℕ → ℕ → Option ℕ
owner_at rows k number = slice_index_or (slice_index_or rows k []) number None

-- they have some triangle
abbrev pub HasOwner : List (List (Option ℕ)) → Side → Type 0
HasOwner rows s = ¬ (owner_at rows s.tri s.number ≡ None)

-- the rows with a triangle at a side
abbrev pub rows_with : List (List (Option ℕ)) → Side → ℕ → List (List (Option ℕ))
rows_with rows s other = slice_set rows s.tri (slice_set (slice_index_or rows s.tri []) s.number (Some other))

-- the rows with each of two triangles at the side of the other
abbrev pub rows_linked : List (List (Option ℕ)) → Side → Side → List (List (Option ℕ))
rows_linked rows s t = rows_with (rows_with rows s t.tri) t s.tri

-- triangle k shares that side with the other one, which has it in the other direction
abbrev pub IsAcross : List Tri → ℕ → ℕ → ℕ → Type 0
IsAcross tris k number other =
    (other < length tris) × HasSide (tri_at tris other) (side_end (tri_at tris k) number) (side_begin (tri_at tris k) number)

-- another side is between the same corners, and of this triangle
pub record IsPartner (sides : List Side) (p other : ℕ) : Type 0 where
  pub q : ℕ
  pub in_list : q < length sides
  pub shared : AreShared (side_at sides p) (side_at sides q)
  pub is : other ≡ (side_at sides q).tri

-- rows for m triangles: what a side has is right, and where one of two sides has a triangle the other has one
pub record AreLinkedRows (m : ℕ) (sides : List Side) (rows : List (List (Option ℕ))) : Type 0 where
  pub count : length rows ≡ m
  pub three : All (λ row. length row ≡ 3) rows
  pub right : (p other : ℕ) → p < length sides → owner_at rows (side_at sides p).tri (side_at sides p).number ≡ Some other
      → IsPartner sides p other
  pub both : (p q : ℕ) → p < length sides → q < length sides → AreShared (side_at sides p) (side_at sides q)
      → HasOwner rows (side_at sides p) → HasOwner rows (side_at sides q)

-- what had a triangle has one
abbrev pub HasMore : List (List (Option ℕ)) → List (List (Option ℕ)) → Type 0
HasMore rows after = (s : Side) → HasOwner rows s → HasOwner after s

-- the sides whose higher corner is v were seen, from a place on: each has a triangle, or is marked at its lower corner
pub record AreSeen (sides : List Side) (v from m n : ℕ) (rows : List (List (Option ℕ))) (marks : List ℕ) : Type 0 where
  pub linked : AreLinkedRows m sides rows
  pub count : length marks ≡ n
  pub in_list : (i p : ℕ) → mark_at marks i ≡ Some p → p < length sides
  pub seen : (p : ℕ) → from ≤ p → p < length sides → (side_at sides p).high ≡ v
      → HasOwner rows (side_at sides p) ⊎ (mark_at marks (side_at sides p).low ≡ Some p)

-- the marks of the corners above v are as before
abbrev pub AreKept : ℕ → List ℕ → List ℕ → Type 0
AreKept v marks after = (i : ℕ) → v < i → mark_at after i ≡ mark_at marks i

-- all pairs of sides whose higher corner is below v are linked
abbrev pub HaveOwners : List Side → ℕ → List (List (Option ℕ)) → Type 0
HaveOwners sides v rows =
    (p q : ℕ) → p < length sides → q < length sides → AreShared (side_at sides p) (side_at sides q) → (side_at sides p).high < v
    → HasOwner rows (side_at sides p)
