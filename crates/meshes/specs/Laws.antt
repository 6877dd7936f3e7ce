-- The laws of triangulations, as statements. As in the textbooks; sleeves: Lee and Preparata 1984.
use Rattle.std.specs.Prelude.{◌≡◌, ◌↔◌, ℕ, ◌+◌, ◌-◌, ◌<◌, ◌≤◌, List, [], ◌∷◌, ◌++◌, length, slice_index_or, zero, suc}
use Rattle.plane.specs.Prelude.{IsPoint, Meet, On, Point, Triple, whole}
use Rattle.rings.specs.Prelude.{IsCounterclockwise, IsSimple, Sees, vertex}
use Rattle.meshes.specs.Fits.{Fits, FitsPiece, IsInTri, IsPieceEdge, IsSideOfTwo, piece_points}
use Rattle.meshes.specs.Side.{HasSide, HasSideBetween, IsTree, IsWalk, ShareSide, tri_at}
use Rattle.meshes.specs.declared.tri.Tri.{Tri}

-- the triangle at place m of a walk
abbrev pub walk_tri : List Tri → List ℕ → ℕ → Tri
walk_tri tris walk m = tri_at tris (slice_index_or walk m 0)

-- the walk goes from its triangle at place m to the next one over the side between vertices i and j
pub record CrossesSide (tris : List Tri) (walk : List ℕ) (m i j : ℕ) : Type 0 where
  pub has_next : m + 1 < length walk
  pub of_this : HasSideBetween (walk_tri tris walk m) i j
  pub of_next : HasSideBetween (walk_tri tris walk (m + 1)) i j

-- a rational point in a triangle of a walk and in a later one is on each side that the walk crosses between them
abbrev pub SeparationLaw : Type 0
SeparationLaw = (corners : List Point) (piece : List ℕ) (tris : List Tri) → FitsPiece corners piece tris → (walk : List ℕ) → IsWalk tris walk
    → (m i j : ℕ) → CrossesSide tris walk m i j → (k l : ℕ) → k ≤ m → m < l → l < length walk
    → (x : Triple) → IsPoint x → IsInTri corners (walk_tri tris walk k) x → IsInTri corners (walk_tri tris walk l) x
    → On x (whole (vertex corners i)) (whole (vertex corners j))

-- rational points in the first and the last triangle of a walk see each other exactly if the segment between them meets each
-- side that the walk crosses: in a piece,
abbrev pub PieceSleeveLaw : Type 0
PieceSleeveLaw = (corners : List Point) (piece : List ℕ) (tris : List Tri) → FitsPiece corners piece tris → (walk : List ℕ) → IsWalk tris walk
    → (p q : Triple) → IsPoint p → IsPoint q
    → IsInTri corners (walk_tri tris walk 0) p → IsInTri corners (walk_tri tris walk (length walk - 1)) q
    → Sees (piece_points corners piece) p q
    ↔ ((m i j : ℕ) → CrossesSide tris walk m i j → Meet p q (whole (vertex corners i)) (whole (vertex corners j)))

-- and in a whole ring
abbrev pub SleeveLaw : Type 0
SleeveLaw = (corners : List Point) (tris : List Tri) → Fits corners tris → (walk : List ℕ) → IsWalk tris walk
    → (p q : Triple) → IsPoint p → IsPoint q
    → IsInTri corners (walk_tri tris walk 0) p → IsInTri corners (walk_tri tris walk (length walk - 1)) q
    → Sees corners p q
    ↔ ((m i j : ℕ) → CrossesSide tris walk m i j → Meet p q (whole (vertex corners i)) (whole (vertex corners j)))

-- triangle k shares a side with exactly one other triangle, its neighbour
pub record IsLeaf (tris : List Tri) (k : ℕ) : Type 0 where
  pub in_list : k < length tris
  pub neighbour : ℕ
  pub neighbour_in_list : neighbour < length tris
  pub different : ¬ (neighbour ≡ k)
  pub sharing : ShareSide (tri_at tris k) (tri_at tris neighbour)
  pub only : (l : ℕ) → l < length tris → ¬ (l ≡ k) → ShareSide (tri_at tris k) (tri_at tris l) → l ≡ neighbour

-- triangles that are a tree, two or more, have two leaves
abbrev pub LeavesLaw : Type 0
LeavesLaw = (tris : List Tri) → IsTree tris → 2 ≤ length tris → (k : ℕ) × (l : ℕ) × (¬ (k ≡ l)) × IsLeaf tris k × IsLeaf tris l

-- and where some triangle is not on a walk, there is a leaf that is not on it
abbrev pub LeafOffWalkLaw : Type 0
LeafOffWalkLaw = (tris : List Tri) → IsTree tris → (walk : List ℕ) → IsWalk tris walk
    → (n : ℕ) → n < length tris → ((m : ℕ) → m < length walk → ¬ (n ≡ slice_index_or walk m 0))
    → (k : ℕ) × IsLeaf tris k × ((m : ℕ) → m < length walk → ¬ (k ≡ slice_index_or walk m 0))

-- triangle k of the list, beside triangle l, is an ear with the tip v: two of its sides are consecutive edges of the piece, from
-- u over v to w, and the third is shared with triangle l
pub record IsEar (piece : List ℕ) (tris : List Tri) (k l u v w : ℕ) : Type 0 where
  pub first_side : HasSide (tri_at tris k) u v
  pub second_side : HasSide (tri_at tris k) v w
  pub first_edge : IsPieceEdge piece u v
  pub second_edge : IsPieceEdge piece v w
  pub base : IsSideOfTwo tris w u k l

-- a list of triangles without triangle k
abbrev pub without : ℕ → List Tri → List Tri
without k [] = []
without zero (t ∷ tris) = tris
without (suc k) (t ∷ tris) = t ∷ without k tris

-- a leaf is an ear, and the triangles without it fit the piece without its tip v
pub record IsEarOff (corners : List Point) (piece : List ℕ) (tris : List Tri) (k l : ℕ) : Type 0 where
  pub u : ℕ
  pub v : ℕ
  pub w : ℕ
  pub ear : IsEar piece tris k l u v w
  pub before : List ℕ
  pub after : List ℕ
  pub tip : piece ≡ before ++ v ∷ after
  pub rest : FitsPiece corners (before ++ after) (without k tris)

-- so it is with each leaf of a mesh
abbrev pub EarLaw : Type 0
EarLaw = (corners : List Point) (piece : List ℕ) (tris : List Tri) → FitsPiece corners piece tris
    → (k : ℕ) → (leaf : IsLeaf tris k) → IsEarOff corners piece tris k leaf.neighbour

-- each simple ring that runs counterclockwise has triangles that fit it
abbrev pub TriangulationLaw : Type 0
TriangulationLaw = (ring : List Point) → 3 ≤ length ring → IsSimple ring → IsCounterclockwise ring → (tris : List Tri) × Fits ring tris
