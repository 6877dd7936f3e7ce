-- The triangles that a point reaches, outward from its own over those of which it sees something, and the edges of the ring that
-- are sides of these. No public clause cites this module.
use Rattle.std.specs.List.{Contains}
use Rattle.std.specs.Prelude.{◌≡◌, ◌⊎◌, ℕ, ◌<◌, ◌≤◌, List, [], ◌∷◌, length, slice_index_or, Option, None}
use Rattle.plane.specs.Point.{Point, whole}
use Rattle.meshes.specs.Cone.{Cone, IsConeOf}
use Rattle.meshes.specs.Fits.{IsInTri, IsSideOfOne}
use Rattle.meshes.specs.Mesh.{side_begin, side_end}
use Rattle.meshes.specs.Side.{HasSide, IsWalkBetween, tri_at}
use Rattle.meshes.specs.declared.tri.Tri.{Tri}
use Rattle.see_cone.specs.declared.edges.Placed.{Placed}
use Rattle.see_cone.specs.declared.reached.Reached.{Reached}

-- what is at a place
abbrev pub reached_at : List Reached → ℕ → Reached
reached_at reached p = slice_index_or reached p (record { tri = 0; from = 0; cone = None })

-- the triangle there,
abbrev pub tri_there : List Reached → ℕ → ℕ
tri_there reached p = (reached_at reached p).tri

-- and its cone
abbrev pub cone_there : List Reached → ℕ → Option Cone
cone_there reached p = (reached_at reached p).cone

-- triangle k was reached
abbrev pub IsTriReached : List Reached → ℕ → Type 0
IsTriReached reached k = (p : ℕ) × (p < length reached) × (tri_there reached p ≡ k)

-- the first of some numbers, or k where there is none
abbrev pub first_or : ℕ → List ℕ → ℕ
first_or k [] = k
first_or k (x ∷ xs) = x

-- the walk from triangle k to the home goes first to triangle `from`; that from the home goes nowhere
pub record IsNextHomeward (tris : List Tri) (home from k : ℕ) : Type 0 where
  pub rest : List ℕ
  pub walk : IsWalkBetween tris k home (k ∷ rest)
  pub first : first_or k rest ≡ from

-- triangle l is beyond a side of triangle k
pub record IsAcrossSide (tris : List Tri) (k side l : ℕ) : Type 0 where
  pub in_list : l < length tris
  pub has : HasSide (tri_at tris l) (side_end (tri_at tris k) side) (side_begin (tri_at tris k) side)

-- what is at a place: a triangle that was reached from one at a place below a bound, and its cone
pub record IsReachedAt (corners : List Point) (tris : List Tri) (q : Point) (reached : List Reached) (bound p : ℕ) : Type 0 where
  pub in_list : tri_there reached p < length tris
  pub from : IsNextHomeward tris (tri_there reached 0) (reached_at reached p).from (tri_there reached p)
  pub from_place : 0 < p → (m : ℕ) × (m < bound) × (m < length reached) × (tri_there reached m ≡ (reached_at reached p).from)
  pub cone : IsConeOf corners tris q (tri_there reached p) (cone_there reached p)

-- they are different, and q is in the first one
pub record AreReached (corners : List Point) (tris : List Tri) (q : Point) (reached : List Reached) (bound : ℕ) : Type 0 where
  pub some : 0 < length reached
  pub in_home : IsInTri corners (tri_at tris (tri_there reached 0)) (whole q)
  pub at_places : (p : ℕ) → p < length reached → IsReachedAt corners tris q reached bound p
  pub once : (p r : ℕ) → p < length reached → r < length reached → tri_there reached p ≡ tri_there reached r → p ≡ r

-- the triangles beyond a side of that at a place were reached
abbrev pub IsSideReached : List Tri → List Reached → ℕ → ℕ → Type 0
IsSideReached tris reached k side = (l : ℕ) → IsAcrossSide tris k side l → IsTriReached reached l

-- at the first places, where there is a cone, all sides are done
abbrev pub AreDone : List Tri → List Reached → ℕ → Type 0
AreDone tris reached bound =
    (p : ℕ) → p < bound → p < length reached → ¬ (cone_there reached p ≡ None) → (side : ℕ) → side < 3
    → IsSideReached tris reached (tri_there reached p) side

-- and at all
pub record AreAllReached (corners : List Point) (tris : List Tri) (q : Point) (reached : List Reached) : Type 0 where
  pub are : AreReached corners tris q reached (length reached)
  pub done : AreDone tris reached (length reached)

-- what is beyond a side of the triangle at a place, other than that from which this one was reached, was not yet
abbrev pub AreNewBeyond : List Tri → List Reached → ℕ → ℕ → Type 0
AreNewBeyond tris reached p side =
    (l : ℕ) → IsAcrossSide tris (tri_there reached p) side l → ¬ (l ≡ (reached_at reached p).from) → ¬ IsTriReached reached l

-- more were reached, and what is new is one of these
pub record IsReachGrown (before after : List Reached) (New : ℕ → Type 0) : Type 0 where
  pub longer : length before ≤ length after
  pub kept : (p : ℕ) → p < length before → reached_at after p ≡ reached_at before p
  pub added : (l : ℕ) → IsTriReached after l → IsTriReached before l ⊎ New l

-- a triangle beyond one of the first sides of triangle k
abbrev pub IsBeyondFirst : List Tri → ℕ → ℕ → ℕ → Type 0
IsBeyondFirst tris k sides l = (side : ℕ) × (side < sides) × IsAcrossSide tris k side l

-- ---- the edges of the ring

-- the triangles at all places are of the list, and different
pub record AreDifferent (tris : List Tri) (reached : List Reached) : Type 0 where
  pub in_list : (p : ℕ) → p < length reached → tri_there reached p < length tris
  pub once : (p r : ℕ) → p < length reached → r < length reached → tri_there reached p ≡ tri_there reached r → p ≡ r

-- an edge and the place of its triangle, one after the other
abbrev pub placed_at : List Placed → ℕ → Placed
placed_at edges j = slice_index_or edges j (record { edge = 0; place = 0 })

-- the edge is a side of the triangle at its place, and of no other
pub record IsPlaced (tris : List Tri) (reached : List Reached) (placed : Placed) : Type 0 where
  pub below : placed.place < length reached
  pub end : ℕ
  pub alone : IsSideOfOne tris placed.edge end (tri_there reached placed.place)

-- a side of the triangle at a place is among the edges, if no other triangle has it
abbrev pub IsSideListed : List Tri → List Reached → List Placed → ℕ → ℕ → Type 0
IsSideListed tris reached edges p side =
    let t = tri_at tris (tri_there reached p) in
    IsSideOfOne tris (side_begin t side) (side_end t side) (tri_there reached p)
    → Contains edges (record { edge = side_begin t side; place = p })

-- it is of a place below a bound, or of that place and one of its first sides
abbrev pub IsEarly : List Tri → List Reached → ℕ → ℕ → Placed → Type 0
IsEarly tris reached bound sides placed =
    (placed.place < bound)
    ⊎ ((placed.place ≡ bound) × (side : ℕ) × (side < sides) × (placed.edge ≡ side_begin (tri_at tris (tri_there reached bound)) side))

-- edges, none twice: all of the triangles at places below a bound that have a cone, and those of the first sides of the next one
pub record AreBoundaryEdges (tris : List Tri) (reached : List Reached) (bound sides : ℕ) (edges : List Placed) : Type 0 where
  pub placed : (j : ℕ) → j < length edges → IsPlaced tris reached (placed_at edges j)
  pub early : (j : ℕ) → j < length edges → IsEarly tris reached bound sides (placed_at edges j)
  pub once : (j l : ℕ) → j < l → l < length edges → ¬ ((placed_at edges j).edge ≡ (placed_at edges l).edge)
  pub all : (p : ℕ) → p < bound → ¬ (cone_there reached p ≡ None) → (side : ℕ) → side < 3 → IsSideListed tris reached edges p side
  pub next : (side : ℕ) → side < sides → IsSideListed tris reached edges bound side

-- in their order
pub record AreSorted (tris : List Tri) (reached : List Reached) (edges : List Placed) : Type 0 where
  pub are : AreBoundaryEdges tris reached (length reached) 0 edges
  pub rising : (j l : ℕ) → j < l → l < length edges → (placed_at edges j).edge < (placed_at edges l).edge
