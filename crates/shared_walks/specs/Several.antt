-- Paths from one point to several, of which some are found. This project's own.
use Rattle.std.specs.List.{All, Contains}
use Rattle.std.specs.Prelude.{◌≡◌, ◌⊎◌, ℕ, ◌+◌, ◌-◌, ◌*◌, ◌<◌, ◌≤◌, List, [], ◌∷◌, length, map, slice_index, slice_index_or, Vec}
use Rattle.std.specs.declared.alloc.Global.{Global}
use Rattle.plane.specs.Point.{Point, whole}
use Rattle.rings.specs.Chain.{IsPath, point_at}
use Rattle.meshes.specs.Fits.{IsInTri}
use Rattle.meshes.specs.Side.{HasSide, tri_at}
use Rattle.meshes.specs.declared.tri.Tri.{Tri}

-- a point or more, at most one more than the ring has vertices, and the path
pub record IsPathOfFewPoints (corners : List Point) (s t : Point) (path : List Point) : Type 0 where
  pub is_path : IsPath corners s t path
  pub some : 0 < length path
  pub short : length path ≤ length corners + 1

-- the path to each of the points, in their order
pub record ArePathsFrom (corners : List Point) (s : Point) (points : List Point) (paths : List (List Point)) : Type 0 where
  pub count : length paths ≡ length points
  pub each : (k : ℕ) → k < length points → IsPathOfFewPoints corners s (point_at points k) (slice_index_or paths k [])

-- a triangle of the mesh for each point, which holds it
pub record AreInTris (corners : List Point) (mesh : List Tri) (tris : List ℕ) (points : List Point) : Type 0 where
  pub count : length tris ≡ length points
  pub in_mesh : (k : ℕ) → k < length points → slice_index tris k < length mesh
  pub held : (k : ℕ) → k < length points → IsInTri corners (tri_at mesh (slice_index tris k)) (whole (point_at points k))

-- lists of points that stand in memory
abbrev pub listed : List (Vec Point Global) → List (List Point)
listed chains = map (λ chain. chain.items) chains

-- for each of the points there is no path yet, or the path
pub record ArePathsSoFar (corners : List Point) (s : Point) (points : List Point) (found : List (List Point)) : Type 0 where
  pub count : length found ≡ length points
  pub each : (k : ℕ) → k < length points → (length (slice_index_or found k []) ≡ 0)
      ⊎ IsPathOfFewPoints corners s (point_at points k) (slice_index_or found k [])

-- no path that was found is lost
abbrev pub KeepsPaths : List (List Point) → List (List Point) → Type 0
KeepsPaths found found' = (k : ℕ) → 0 < length (slice_index_or found k []) → 0 < length (slice_index_or found' k [])

-- how many paths are not found yet
abbrev pub missing : List (List Point) → ℕ
missing [] = 0
missing (path ∷ found) = 1 - length path + missing found

-- more paths were found, each for at most so many steps
pub record FindsPaths (corners : List Point) (s : Point) (points : List Point) (cost : ℕ) (found : List (List Point)) (steps : ℕ)
    (found' : List (List Point)) (steps' : ℕ) : Type 0 where
  pub so_far : ArePathsSoFar corners s points found'
  pub kept : KeepsPaths found found'
  pub paid : steps' + missing found' * cost ≤ steps + missing found * cost

-- all numbers below n, and no other
pub record AreAllNumbers (n : ℕ) (numbers : List ℕ) : Type 0 where
  pub below : All (λ k. k < n) numbers
  pub each : (k : ℕ) → k < n → Contains numbers k

-- each point whose triangle has the side has its path
abbrev pub AreServed : List Tri → List ℕ → ℕ → ℕ → ℕ → List (List Point) → Type 0
AreServed mesh tris from to n found = (k : ℕ) → k < n → HasSide (tri_at mesh (slice_index tris k)) from to → 0 < length (slice_index_or found k [])
