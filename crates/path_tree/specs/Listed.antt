-- Funnels as lists of numbers: corners by theirs, and the source by the count of the corners. This project's own.
use Rattle.std.specs.List.{All}
use Rattle.std.specs.Prelude.{◌≡◌, ℕ, ◌+◌, ◌≤◌, List, [], ◌∷◌, ◌++◌, length, map, slice_index}
use Rattle.plane.specs.Point.{Point, whole}
use Rattle.rings.specs.Chain.{point_at}
use Rattle.rings.specs.Ring.{vertex}
use Rattle.meshes.specs.Fits.{Fits, IsSideOfTwo}
use Rattle.meshes.specs.Side.{HasSide, tri_at}
use Rattle.meshes.specs.declared.tri.Tri.{Tri}
use Rattle.funnels.specs.Funnel.{IsReachedFrom}
use Rattle.funnels.specs.OpenFunnel.{IsOpenFunnel}

-- the numbers from the left end to the right one, and the place of the apex
pub record Listed : Type 0 where
  pub list : List ℕ
  pub apex : ℕ

-- the point that a number stands for
abbrev pub point_of : List Point → Point → ℕ → Point
point_of corners start i = point_at (corners ++ start ∷ []) i

-- and those of a list
abbrev pub listed_points : List Point → Point → List ℕ → List Point
listed_points corners start list = map (point_of corners start) list

-- each stands for a point, among so many corners
abbrev pub AreNumbers : ℕ → List ℕ → Type 0
AreNumbers n list = All (λ i. i ≤ n) list

-- triangle k is beyond the diagonal from corner i, on the left, to corner j, and m is its third corner
pub record IsTriangleBeyond (tris : List Tri) (k i j m : ℕ) : Type 0 where
  pub from : ℕ
  pub diagonal : IsSideOfTwo tris i j k from
  pub right : HasSide (tri_at tris k) j m
  pub left : HasSide (tri_at tris k) m i

-- the numbers stand for the funnel at the diagonal from corner i to corner j, after so many diagonals. The chain to it begins at
-- the start, and where it has no points before the apex, that is the start by its own number
pub record IsFunnelAt (corners : List Point) (start : Point) (i j diagonals : ℕ) (f : Listed) : Type 0 where
  pub before : List Point
  pub funnel : IsOpenFunnel corners before (listed_points corners start f.list) f.apex i j
  pub begins : point_at (before ++ point_at (listed_points corners start f.list) f.apex ∷ []) 0 ≡ start
  pub source : before ≡ [] → slice_index f.list f.apex ≡ length corners
  pub numbers : AreNumbers (length corners) f.list
  pub few : length before + length f.list ≤ diagonals + 2

-- f' is the next funnel after f, over a triangle beyond its diagonal whose third corner m is reached from the place: for each mesh,
-- the funnel at the side with these ends, which come from those of the diagonal, where another triangle shares that side
abbrev pub IsNextFunnel : Listed → ℕ → ℕ → (ℕ → ℕ → ℕ × ℕ) → Listed → Type 0
IsNextFunnel f place m ends f' = (corners : List Point) (start : Point) (tris : List Tri) (k i j next d : ℕ)
    → Fits corners tris → IsTriangleBeyond tris k i j m → IsFunnelAt corners start i j d f
    → IsReachedFrom (listed_points corners start f.list) f.apex place (whole (vertex corners m))
    → IsSideOfTwo tris (ends i j).1 (ends i j).0 k next → IsFunnelAt corners start (ends i j).0 (ends i j).1 (d + 1) f'
